-- The table of principals of each accepted view is by user 0's certificates, and the handles that user 0 signs name it.
use Rattle.std.proofs.Common.{◌≡◌, ℕ, ◌+◌, ◌≤◌, Bool, true, false, ◌==◌, ◌||◌, not, List, [], ◌∷◌, filter, length, map, Option, Some, None, refl, sym, ap, ◌∙◌, subst, inl, inr, arith}
use Rattle.std.specs.Prelude.{◌⊎◌}
use Rattle.std.specs.Int.{w16}
use Rattle.std.specs.List.{All, flat_map, list_any}
use Rattle.std.specs.Option.{option_map_or}
use Rattle.std.proofs.lemmas.Bool.{eq-eqb, eqb-true}
use Rattle.std.proofs.lemmas.List.Elements.{All-head, All-nil, All-weaker}
use Rattle.layout.specs.Laws.{in_range}
use Rattle.layout.specs.Hash.{hash}
use Rattle.layout.specs.Types.{Bytes, Handle, Key, Principal, User}
use Rattle.lms_sign.specs.Signature.{valid}
use Rattle.itable.specs.File.{NoneCollide, inode_of}
use Rattle.itable.specs.Inode.{inode}
use Rattle.principals.specs.declared.table.Row.{Row}
use Rattle.principals.specs.Table.{Table, genesis}
use Rattle.principals.specs.TableText.{NoneAfter, key as key_form, table}
use Rattle.principals.specs.TableTextLaws.{lawful_table}
use Rattle.principals.proofs.SizeLaws.{text_size}
use Rattle.principals.proofs.Users.{first_fits}
use Rattle.version_order.specs.declared.structure.GroupRecord.{GroupRecord}
use Rattle.version_order.specs.Plan.{Plan}
use Rattle.version_order.specs.Structure.{Structure, structure}
use Rattle.update_cert.specs.Cert.{Cert, cert}
use Rattle.update_cert.specs.Tables.{table_after}
use Rattle.update_cert.specs.World.{File, Principals}
use Rattle.update_cert.proofs.TableLaws.{none_after}
use Rattle.update_cert.proofs.TableStands.{changes_fit}
use Rattle.tree_parts.specs.declared.scope.Scope.TheVariants as scopes
use Rattle.tree_parts.proofs.SomeReading.{some_reading}
use Rattle.pending_list.specs.declared.signed.Signed.{Signed}
use Rattle.pending_list.specs.Groups.{raised_groups}
use Rattle.pending_list.specs.Reply.{PendingItem, Reply}
use Rattle.reply_rules.specs.Lists.{Lists, items, number_of}
use Rattle.reply_rules.specs.Rules.{pending_once}
use Rattle.client_tree.specs.Genesis.{first_handle, first_texts}
use Rattle.client_tree.specs.Opened.{has_change, is_touched, items_on}
use Rattle.client_tree.specs.Tree.{IsStored, IsUntouched, Stored}
use Rattle.client_tree.specs.View.{comes_after, handle_in, structure_of}
use Rattle.client_tree.specs.View as tree_spec
use Rattle.reply_check.specs.FirstBroken.{view_over}
use Rattle.client_verify.proofs.GenesisLaws.{length-table_text}
use Rattle.agreement.specs.Runs.{View}
use Rattle.agreement.proofs.Formed.{cert_fits, same_spelled}
use Rattle.agreement.proofs.Members.{In, in-append, in-filter, in-left, in-map, in-right, map-in, of_all}
use Rattle.fork_consistency.specs.Premises.{HasReleased}
use Rattle.client_runs.specs.Released.{Shown, accepted_by, hashed_at, shown_by, shown_cert, shown_structure, tried_view, views}
use Rattle.client_runs.specs.Runs.{Event, IsOwnKey, IsRun, Keys, client_of, owner, pinned as pinned_key}
use Rattle.fork_consistency.proofs.Genuine.{IsReleasedText, released_later, released_structure, pinned_own}
use Rattle.fork_consistency.proofs.Holds.{IsTriedOver, known_in, signed_in}
use Rattle.fork_consistency.proofs.Judging.{IsUnbroken, cert_by_super, structure_by_super, structure_fits, unbroken, unbroken_by}
use Rattle.fork_consistency.proofs.Moves.{holds_at}
use Rattle.client_runs.proofs.Replies.{of_lists, shown}
use Rattle.fork_consistency.proofs.Views.{in_views, over_here}
use Rattle.fork_consistency.proofs.Lists.{found_in}
use Rattle.fork_consistency.specs.ByCertificates.{HasAllUpTo, certificate, certificates_up_to, tables_after}
use Rattle.fork_consistency.specs.Handles.{IsWhole, NamesTableAmong, told_by_texts}
use Rattle.fork_consistency.proofs.Acting.{at_most_one, certs, certs_last, filter_none, next_number, none_before, once_front, ordered, others_leave, super_comes, untouched_leave, view_stands}
use Rattle.fork_consistency.proofs.Certificates.{all_more, found, none_first, one_more, tables_more}
use Rattle.fork_consistency.proofs.Firsts.{first_file_in, first_text, first_told, first_whole}
use Rattle.fork_consistency.proofs.Origins.{IsKnown, IsMade, IsTold, all_known}
use Rattle.fork_consistency.proofs.SignedTable.{signs_table, table_named}
use Rattle.fork_consistency.proofs.TableTexts.{after_fits}
use Rattle.fork_consistency.proofs.Whole.{part_whole}

-- ---- signatures

-- what is signed by user 0 verifies under its key
by_super : (key text signature : Bytes) (u : User) → u ≡ 0 → (not (u == 0) || valid key text signature) ≡ true → valid key text signature ≡ true
by_super key text signature u zero e = go (u == 0) (eq-eqb u 0 zero) e
  where
    go : (b : Bool) → b ≡ true → (not b || valid key text signature) ≡ true → valid key text signature ≡ true
    go true is h = h
    go false is h = absurd (cc is)

-- ---- what user 0 signed

-- what is shown and verifies under user 0's key was released by its client, at an earlier step
abbrev pub SuperGenuine : Keys → List Event → Type 0
SuperGenuine keys [] = Unit {0}
SuperGenuine keys (e ∷ older) = All (λ t. t.user ≡ 0 → IsReleasedText keys older t) (shown_by e.call) × SuperGenuine keys older

genuine : (keys : Keys) (run : List Event) → SuperGenuine keys run → (t : Shown) → In t (shown run) → t.user ≡ 0 → (key : Key) → IsOwnKey keys t.user key → valid key t.text t.signature ≡ true → HasReleased t.user run t.text
genuine keys [] none t i zero key own v = absurd i
genuine keys (e ∷ older) none t i zero key own v =
    elim (in-append t (shown_by e.call) (shown older) i) [
      | inl j ↦ released_later e older t.user t.text (of_all (λ (x : Shown). x.user ≡ 0 → IsReleasedText keys older x) (shown_by e.call) none.0 t j zero key own v)
      | inr j ↦ released_later e older t.user t.text (genuine keys older none.1 t j zero key own v)
    ]

module _ (keys : Keys) (whole : List Event) (is_whole : IsRun keys whole) (pinned : key_form.Fits (pinned_key keys)) where
  abbrev key : Key
  key = pinned_key keys

  -- it is one of user 0's
  super_own : (u : User) → u ≡ 0 → IsOwnKey keys u key
  super_own u zero = subst (λ (w : User). IsOwnKey keys w key) (sym zero) (pinned_own keys pinned)

  -- ---- tables

  abbrev table_at : ℕ → Table
  table_at n = tables_after (certificates_up_to n 0 whole) (genesis key)

  -- it is the table after user 0's operations up to this number; it has a text, and no row begins later
  pub record IsAt (n : ℕ) (t : Table) : Type 0 where
    pub released : HasAllUpTo n 0 whole
    pub is : t ≡ table_at n
    pub fits : table.Fits t
    pub none : NoneAfter n t

  first_at : IsAt 0 (genesis key)
  first_at = record { released = none_first 0 whole; is = refl; fits = first_fits key pinned; none = All-nil (λ (r : Row). r.begins ≤ 0) }

  -- one operation more
  next_at : (n : ℕ) (t : Table) (c : Cert) → IsAt n t → cert.Fits c → c.user ≡ 0 → c.number ≡ n + 1 → HasReleased 0 whole (cert.spell c) → IsAt (n + 1) (table_after c.user c.number c.changes t)
  next_at n t c at fits zero number has =
      let there : certificate 0 whole (n + 1) ≡ Some c = ap (certificate 0 whole) (sym number) ∙ found keys whole is_whole 0 c fits zero has in
      let later : NoneAfter (n + 1) t = All-weaker (λ (r : Row). r.begins ≤ n) (λ (r : Row). r.begins ≤ n + 1) (λ r low. omega arith) t.rows at.none in
      let so : NoneAfter c.number t = subst (λ (k : ℕ). NoneAfter k t) (sym number) later in
      record {
        released = all_more 0 whole n c there at.released;
        is =
            ap (table_after c.user c.number c.changes) at.is ∙ sym (tables_more (certificates_up_to n 0 whole) c (genesis key))
            ∙ ap (λ (cs : List Cert). tables_after cs (genesis key)) (sym (one_more 0 whole n c there));
        fits = after_fits c.user c.number c.changes t (changes_fit c fits) fits.1.0 so at.fits;
        none = subst (λ (k : ℕ). NoneAfter k (table_after c.user c.number c.changes t)) number (none_after c.user c.number c.changes t so);
      }

  small : (n : ℕ) (t : Table) → IsAt n t → length (table.spell t) ≤ 4194304
  small n t at = omega (arith, text_size t at.fits.0 (in_range w16 0 65535 (length t.rows) at.fits.1.0).1)

  module _ (texts : List Bytes) (apart : NoneCollide texts texts) (first : (t : Bytes) → In t (first_texts key) → In t texts) where
    -- ---- handles

    -- a handle of user 0's part names the table after the operations up to this number
    pub record IsHandleAt (n : ℕ) (handle : Handle) : Type 0 where
      pub users : Table
      pub at : IsAt n users
      pub all : IsWhole texts 0 handle
      pub named : NamesTableAmong texts handle users

    pub first_table_named : NamesTableAmong texts (first_handle 0 key) (genesis key)
    first_table_named =
        table_named texts apart (first_handle 0 key) (genesis key) (small 0 (genesis key) first_at)
        (first_told key texts apart first 0 (omega arith) 1 ∙ ap (λ (b : Bytes). Some (Some (hash (inode.spell (inode_of b))))) (sym (first_text key)))
        (first_file_in key (length-table_text key pinned.0.0) texts first)

    first_handle_at : IsHandleAt 0 (first_handle 0 key)
    first_handle_at = record {
      users = genesis key;
      at = first_at;
      all = first_whole key texts first 0 (omega arith);
      named = first_table_named;
    }

    -- tables that one handle names are the same
    pub one_table : (handle : Handle) (a b : Table) → table.Fits a → table.Fits b → NamesTableAmong texts handle a → NamesTableAmong texts handle b → a ≡ b
    one_table handle a b fits_a fits_b is_a is_b =
        let (reads, agrees) = some_reading (told_by_texts texts) in
        let same : Some (File (table.spell a)) ≡ Some (File (table.spell b)) = sym (is_a reads agrees) ∙ is_b reads agrees in
        let spelled : table.spell a ≡ table.spell b = cc same in
        same_spelled table lawful_table a b fits_a fits_b spelled

    -- that of user 0's structure, or of the beginning
    part_at : (x : Lists) → ((z : Signed Structure) → In z x.structures → z.value.plan.user ≡ 0 → IsHandleAt z.value.plan.number z.value.handle) → IsHandleAt (number_of 0 x) (handle_in key x.structures 0)
    part_at x each = go (structure_of 0 x.structures) refl
      where
        go : (o : Option (Signed Structure)) → structure_of 0 x.structures ≡ o → IsHandleAt (option_map_or (λ z. z.value.plan.number) o 0) (option_map_or (λ z. z.value.handle) o (first_handle 0 key))
        go None none = first_handle_at
        go (Some z) is = let f = found_in (λ (y : Signed Structure). y.value.plan.user == 0) x.structures z is in each z f.0 (eqb-true z.value.plan.user 0 f.1)

    -- ---- a view

    pub record IsView (x : View) : Type 0 where
      pub number : ℕ
      pub at : IsAt number x.table
      pub plan : x.signed.plan ≡ x.lists.own.plan
      pub handle : x.signed.plan.user ≡ 0 → IsHandleAt x.signed.plan.number x.signed.handle
      pub named : x.signed.plan.user ≡ 0 → NamesTableAmong texts x.signed.handle x.table

    -- what is known of an operation of a reply
    pub record IsItem (x : Lists) (i : PendingItem) : Type 0 where
      pub fits : cert.Fits i.cert
      pub user : i.plan.user ≡ i.cert.user
      pub number : i.plan.number ≡ i.cert.number
      pub next : i.plan.number ≡ number_of i.plan.user x + 1
      pub released : i.cert.user ≡ 0 → HasReleased 0 whole (cert.spell i.cert)

    module _ (x : Lists) (t : Table) (told : IsTold texts apart key x t) (each : (i : PendingItem) → In i (items x) → IsItem x i) (once : pending_once (of_lists x) ≡ true) (old : IsHandleAt (number_of 0 x) (handle_in key x.structures 0)) where
      abbrev v : tree_spec.View
      v = view_over key t x

      abbrev m : ℕ
      m = number_of 0 x

      -- the table that user 0's handle names
      users_at : IsAt m told.users
      users_at = subst (IsAt m) (one_table (handle_in key x.structures 0) old.users told.users old.at.fits told.fits old.named told.named) old.at

      abbrev others : List PendingItem
      others = filter (comes_after v 0) x.others

      item_of : (i : PendingItem) → In i (items_on v 0) → In i (items x)
      item_of i j =
          elim (in-append i others (x.own ∷ []) j) [
            | inl k ↦ in-left i x.others (x.own ∷ []) (in-filter (comes_after v 0) i x.others k).0
            | inr k ↦ in-right i x.others (x.own ∷ []) k
          ]

      fit : (i : PendingItem) → In i (items_on v 0) → cert.Fits i.cert
      fit i j = (each i (item_of i j)).fits

      -- the view's table is what those on user 0's part make of it
      table_is : t ≡ table_after x.own.cert.user x.own.cert.number x.own.cert.changes (tables_after (certs others) told.users)
      table_is =
          let (reads, agrees) = some_reading (told_by_texts texts) in
          let same : Some (Principals t) ≡ Some (Principals (table_after x.own.cert.user x.own.cert.number x.own.cert.changes (tables_after (certs others) told.users))) = sym (told.pending.after reads) ∙ view_stands reads told.users v fit in
          cc same

      next : (i : PendingItem) → In i (items x) → i.cert.user ≡ 0 → (a : Table) → IsAt m a → IsAt (m + 1) (table_after i.cert.user i.cert.number i.cert.changes a)
      next i j zero a at =
          let e = each i j in
          let number : i.cert.number ≡ m + 1 = sym e.number ∙ e.next ∙ ap (λ (u : User). number_of u x + 1) (e.user ∙ zero) in
          next_at m a i.cert at e.fits zero number (e.released zero)

      own_in : In x.own (items x)
      own_in = in-right x.own x.others (x.own ∷ []) (inl refl)

      -- where the own operation is another user's
      table_of_others : (x.own.cert.user == 0) ≡ false → (n : ℕ) × IsAt n t
      table_of_others other =
          let same : t ≡ tables_after (certs others) told.users = table_is ∙ others_leave x.own.cert (tables_after (certs others) told.users) other in
          elim (at_most_one (λ (i : PendingItem). i.plan.user) (comes_after v 0) 0 x.others (once_front (λ (i : PendingItem). i.plan.user) x.others (x.own ∷ []) once) of_super) [
            | inl none ↦ (m, subst (IsAt m) (sym (same ∙ ap (λ (is : List PendingItem). tables_after (certs is) told.users) none)) users_at)
            | inr (i, one) ↦ (
                let there = in-filter (comes_after v 0) i x.others (subst (λ (is : List PendingItem). In i is) (sym one) (inl refl)) in
                let zero = super_comes v i there.1 in
                (m + 1, subst (IsAt (m + 1)) (sym (same ∙ ap (λ (is : List PendingItem). tables_after (certs is) told.users) one)) (next i (in-left i x.others (x.own ∷ []) there.0) zero told.users users_at)))
          ]
        where
          of_super : (i : PendingItem) → In i x.others → comes_after v 0 i ≡ true → i.plan.user ≡ 0
          of_super i j is = (each i (in-left i x.others (x.own ∷ []) j)).user ∙ super_comes v i is

      -- where it is user 0's
      table_of_super : x.own.cert.user ≡ 0 → IsAt (m + 1) t
      table_of_super zero =
          let none : others ≡ [] = filter_none (comes_after v 0) x.others (λ i j. not_super i j (comes_after v 0 i) refl) in
          let same : t ≡ table_after x.own.cert.user x.own.cert.number x.own.cert.changes told.users =
          table_is ∙ ap (λ (is : List PendingItem). table_after x.own.cert.user x.own.cert.number x.own.cert.changes (tables_after (certs is) told.users)) none in
          subst (IsAt (m + 1)) (sym same) (next x.own own_in zero told.users users_at)
        where
          not_super : (i : PendingItem) → In i x.others → (b : Bool) → comes_after v 0 i ≡ b → comes_after v 0 i ≡ false
          not_super i j false is = is
          not_super i j true is =
              let here = (each i (in-left i x.others (x.own ∷ []) j)).user ∙ super_comes v i is in
              let there = (each x.own own_in).user ∙ zero in
              absurd (none_before (λ (k : PendingItem). k.plan.user) x.others x.own once i j (here ∙ sym there))

      pub some_number : (n : ℕ) × IsAt n t
      some_number = go (x.own.cert.user == 0) refl
        where
          go : (b : Bool) → (x.own.cert.user == 0) ≡ b → (n : ℕ) × IsAt n t
          go true is = (m + 1, table_of_super (eqb-true x.own.cert.user 0 is))
          go false other = table_of_others other

      -- the handle that user 0 signs
      signed_at : (handle : Handle) (records : List GroupRecord) (lost : List ℕ) → IsMade texts apart key x t handle records lost → x.own.cert.user ≡ 0 → IsHandleAt x.own.plan.number handle × NamesTableAmong texts handle t
      signed_at handle records lost made zero =
          let at = table_of_super zero in
          let first : made.own.principal ≡ 0 = head_is made.own.principal x.own.cert.user (map (λ (g : Stored). g.principal) made.raised) (raised_groups t x.own) made.outcome.principals ∙ zero in
          let one = All-head (λ (s : Stored). IsStored made.blocks v s ⊎ IsUntouched v s) made.own made.raised made.outcome.stored in
          let before : IsWhole texts made.own.principal (tree_spec.handle_of v made.own.principal) = subst (λ (p : Principal). IsWhole texts p (handle_in key x.structures p)) (sym first) old.all in
          let all : IsWhole texts 0 handle =
          subst (λ (h : Handle). IsWhole texts 0 h) (sym made.handle_is) (subst (λ (p : Principal). IsWhole texts p made.own.handle) first (part_whole texts apart made.blocks v made.own made.among one made.own_in before)) in
          let named : NamesTableAmong texts handle t = subst (λ (h : Handle). NamesTableAmong texts h t) (sym made.handle_is) (names one first before at) in
          let number : x.own.plan.number ≡ m + 1 = (each x.own own_in).next ∙ ap (λ (u : User). number_of u x + 1) ((each x.own own_in).user ∙ zero) in
          (subst (λ (n : ℕ). IsHandleAt n handle) (sym number) (record { users = t; at = at; all = all; named = named }), named)
        where
          head_is : (a b : ℕ) (xs ys : List ℕ) → a ∷ xs ≡ b ∷ ys → a ≡ b
          head_is a b xs ys e = cc e

          names : (IsStored made.blocks v made.own ⊎ IsUntouched v made.own) → made.own.principal ≡ 0 → IsWhole texts made.own.principal (tree_spec.handle_of v made.own.principal) → IsAt (m + 1) t → NamesTableAmong texts made.own.handle t
          names (inl st) is_zero before at = signs_table texts apart made.blocks made.among v made.own st made.own_in is_zero (small (m + 1) t at) before
          names (inr u) is_zero before at =
              let same : handle_in key x.structures 0 ≡ made.own.handle = sym (u.named ∙ ap (handle_in key x.structures) is_zero) in
              let still : list_any (has_change scopes.All 0) (items_on v 0) ≡ false = subst (λ (p : Principal). is_touched v scopes.All p ≡ false) is_zero u.untouched in
              let stays : t ≡ told.users = table_is ∙ sym (certs_last others x.own told.users) ∙ untouched_leave (items_on v 0) told.users fit still in
              subst (λ (h : Handle). NamesTableAmong texts h t) same (subst (NamesTableAmong texts (handle_in key x.structures 0)) (sym stays) told.named)

    -- ---- an accepted view

    module _ (older : List Event) (is : IsRun keys older) (none : SuperGenuine keys older) (within : (text : Bytes) → HasReleased 0 older text → HasReleased 0 whole text) (before : (y : View) → In y (views older) → IsView y) (u : User) (x : View)
        (over : IsTriedOver (owner keys u) (holds_at keys u older is).story older x) (known : IsKnown texts apart key x) where
      abbrev r : Reply
      r = of_lists x.lists

      rules : IsUnbroken (known_in (owner keys u) (holds_at keys u older is).story) r
      rules = unbroken (known_in (owner keys u) (holds_at keys u older is).story) r over.good.judged.unbroken

      shown_at : (z : Signed Structure) → In z x.lists.structures → z.value.plan.user ≡ 0 → IsHandleAt z.value.plan.number z.value.handle
      shown_at z j zero =
          let was =
          over.good.judged.was_shown (shown_structure z)
          (in-left (shown_structure z) (map shown_structure x.lists.structures) (map shown_cert (items x.lists)) (map-in shown_structure x.lists.structures z j)) in
          let signature = by_super key (structure.spell z.value) z.signature z.value.plan.user zero (structure_by_super key r rules.by_super z j) in
          let has = genuine keys older none (shown_structure z) was zero key (super_own z.value.plan.user zero) signature in
          let k = in_views keys z.value.plan.user older z.value (released_structure keys older is z.value.plan.user z.value (structure_fits r over.good.judged.fits z j) has) in
          let (y, m, same) = in-map signed_in (views older) z.value k in
          subst (λ (s : Structure). IsHandleAt s.plan.number s.handle) (sym same) ((before y m).handle (ap (λ (s : Structure). s.plan.user) (sym same) ∙ zero))

      was_declared : (i : PendingItem) → In i (items x.lists) → i.cert.user ≡ 0 → HasReleased 0 whole (cert.spell i.cert)
      was_declared i j zero =
          let was =
          over.good.judged.was_shown (shown_cert i) (in-right (shown_cert i) (map shown_structure x.lists.structures) (map shown_cert (items x.lists)) (map-in shown_cert (items x.lists) i j)) in
          let signature = by_super key (cert.spell i.cert) i.signature i.cert.user zero (cert_by_super key r rules.by_super i j) in
          let has = genuine keys older none (shown_cert i) was zero key (super_own i.cert.user zero) signature in
          within (cert.spell i.cert) (subst (λ (w : User). HasReleased w older (cert.spell i.cert)) zero has)

      item_is : (i : PendingItem) → In i (items x.lists) → IsItem x.lists i
      item_is i j =
          let planned = (ordered r rules.in_order).planned i j in
          record {
            fits = cert_fits r over.good.judged.fits i j;
            user = planned.0;
            number = planned.1;
            next = next_number x.table x.lists (unbroken_by x.table x.lists over.good.by_table).rules i j;
            released = was_declared i j;
          }

      view_is : IsView x
      view_is =
          let once = (ordered r rules.in_order).once in
          let old = part_at x.lists shown_at in
          let t = some_number x.lists x.table known.made.told item_is once old in
          record { number = t.0; at = t.1; plan = over.plan; handle = λ zero. (signed zero).0; named = λ zero. (signed zero).1 }
        where
          signed : x.signed.plan.user ≡ 0 → IsHandleAt x.signed.plan.number x.signed.handle × NamesTableAmong texts x.signed.handle x.table
          signed zero =
              let planned = (ordered r rules.in_order).planned x.lists.own (in-right x.lists.own x.lists.others (x.lists.own ∷ []) (inl refl)) in
              let own : x.lists.own.cert.user ≡ 0 = sym planned.0 ∙ ap (λ (p : Plan). p.user) (sym over.plan) ∙ zero in
              let both = signed_at x.lists x.table known.made.told item_is (ordered r rules.in_order).once (part_at x.lists shown_at) x.signed.handle known.records known.lost known.made own in
              (subst (λ (p : Plan). IsHandleAt p.number x.signed.handle) (sym over.plan) both.0, both.1)

    -- ---- runs

    abbrev AreHashed : List Event → Type 0
    AreHashed run = (t : Bytes) → In t (flat_map hashed_at run) → In t texts

    pub all_views : (run : List Event) → IsRun keys run → SuperGenuine keys run → ((text : Bytes) → HasReleased 0 run text → HasReleased 0 whole text) → AreHashed run → (x : View) → In x (views run) → IsView x
    all_views [] is none within inside x i = absurd i
    all_views (e ∷ older) is none within inside x i =
        let later = λ (t : Bytes) (j : In t (flat_map hashed_at older)). inside t (in-right t (hashed_at e) (flat_map hashed_at older) j) in
        let within_older = λ (text : Bytes) (has : HasReleased 0 older text). within text (released_later e older 0 text has) in
        let before = all_views older is.2 none.1 within_older later in
        elim (in-append x (accepted_by e.call (client_of e.user older) e.after (tried_view e.user older)) (views older) i) [
          | inl here ↦ view_is older is.2 none.1 within_older before e.user x (over_here keys e older is x here) (all_known keys texts apart first (e ∷ older) is inside x i)
          | inr there ↦ before x there
        ]
