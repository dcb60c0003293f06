-- The part of a user whose key isn't stolen is by the user's own certificates, in each accepted view.
use Rattle.std.proofs.Common.{◌≡◌, ◌≢◌, ℕ, ◌+◌, ◌<◌, Bool, true, false, ◌==◌, ◌&&◌, ◌||◌, not, List, [], ◌∷◌, filter, map, Option, Some, None, refl, sym, ap, ◌∙◌, subst, inl, inr, if◌then◌else◌, option_map, arith}
use Rattle.std.specs.Prelude.{◌⊎◌, nat_lt}
use Rattle.std.specs.List.{All, flat_map}
use Rattle.std.specs.Option.{option_map_or}
use Rattle.std.proofs.lemmas.Bool.{cases_eq, eqb-true, lt-ltb}
use Rattle.std.proofs.lemmas.List.Elements.{All-head, All-weaker}
use Rattle.layout.specs.Types.{Bytes, Handle, Key, Principal, User, Version}
use Rattle.lms_sign.specs.Signature.{valid}
use Rattle.itable.specs.File.{NoneCollide}
use Rattle.principals.specs.Table.{Table, key_at}
use Rattle.principals.specs.TableText.{key as key_form}
use Rattle.version_order.specs.declared.structure.GroupRecord.{GroupRecord}
use Rattle.version_order.specs.Plan.{Plan}
use Rattle.version_order.specs.Structure.{Structure, structure}
use Rattle.update_cert.specs.Cert.{Cert, cert}
use Rattle.update_cert.specs.Reading.{Reading, after_read}
use Rattle.update_cert.specs.World.{Principals, Tree, genesis, is_table}
use Rattle.tree_parts.specs.Blocks.{Agrees}
use Rattle.pending_list.specs.declared.signed.Signed.{Signed}
use Rattle.pending_list.specs.Groups.{raised_groups, raises}
use Rattle.version_order.specs.Vector.{version_of}
use Rattle.pending_list.specs.Reply.{PendingItem, Reply}
use Rattle.reply_rules.specs.Lists.{Lists, items, number_of}
use Rattle.reply_rules.specs.Rules.{pending_once}
use Rattle.reply_check.specs.FirstBroken.{verifies, view_over}
use Rattle.client_tree.specs.Genesis.{first_handle, first_texts}
use Rattle.client_tree.specs.Tree.{IsStored, IsUntouched, Stored}
use Rattle.client_tree.specs.View.{actor_of, after_items, comes_after, handle_in, named, newest, structure_of, tree, tree_before}
use Rattle.client_tree.specs.View as tree_spec
use Rattle.agreement.specs.Runs.{View}
use Rattle.agreement.specs.Worlds.{Names, actor_in, view_in, world}
use Rattle.agreement.proofs.Formed.{cert_fits}
use Rattle.agreement.proofs.Members.{In, in-append, in-filter, in-left, in-map, in-right, map-in, of_all, to_all}
use Rattle.fork_consistency.specs.Premises.{AreKeysOf, HasReleased, IsGenuine, NoneForgedOf}
use Rattle.client_runs.specs.Released.{Shown, accepted_by, hashed, hashed_at, shown_by, shown_cert, shown_structure, tried_view, views}
use Rattle.client_runs.specs.Runs.{Event, IsOwnKey, IsRun, Keys, client_of, owner, pinned as pinned_key}
use Rattle.client_runs.specs.UsedOnce.{LeavesOnce}
use Rattle.release_runs.specs.UsedOnce.{AreApart}
use Rattle.fork_consistency.proofs.Genuine.{IsReleasedText, released_later, released_structure, pinned_own}
use Rattle.fork_consistency.proofs.Holds.{IsTriedOver, known_in, signed_in}
use Rattle.fork_consistency.proofs.Judging.{IsUnbroken, IsUnbrokenBy, cert_by_super, cert_verified, structure_by_super, structure_fits, structure_verified, unbroken, unbroken_by}
use Rattle.fork_consistency.proofs.Moves.{holds_at}
use Rattle.client_runs.proofs.Once.{leaves_once}
use Rattle.client_runs.proofs.Replies.{of_lists, shown}
use Rattle.fork_consistency.proofs.Views.{in_views, over_here}
use Rattle.fork_consistency.specs.ByCertificates.{HasAllUpTo, ListOwnKeysOf, certificate, certificates_up_to}
use Rattle.fork_consistency.specs.Handles.{IsWhole, told_by_texts}
use Rattle.fork_consistency.specs.OwnParts.{IsOutside, IsOwnPart, OwnPartsStand, StolenPremises}
use Rattle.fork_consistency.proofs.Acting.{at_most_one, filter_none, next_number, none_before, once_front, ordered}
use Rattle.fork_consistency.proofs.AllHonest.{first_names}
use Rattle.fork_consistency.proofs.ByCertificates.{SuperIsHonest, fewer_forged, super_unforged}
use Rattle.fork_consistency.proofs.ListedKeys.{list_own_keys, own_key_at}
use Rattle.fork_consistency.proofs.Certificates.{all_more, found, none_first, one_more}
use Rattle.fork_consistency.proofs.Firsts.{first_whole}
use Rattle.fork_consistency.proofs.HonestViews.{part_names}
use Rattle.fork_consistency.proofs.Lists.{found_in}
use Rattle.fork_consistency.proofs.Origins.{IsKnown, IsMade, all_known}
use Rattle.fork_consistency.proofs.OwnChanges.{foreign_after, no_items, one_item, own_after, world_more}
use Rattle.fork_consistency.proofs.Whole.{part_whole}

-- ---- user 0

-- what user 0 signed is genuine, since its key isn't stolen
pub super_of : (stolen : User → Bool) (keys : Keys) (run : List Event) → IsRun keys run → AreKeysOf (IsOutside stolen) keys → StolenPremises stolen keys run → SuperIsHonest keys run
super_of stolen keys run is keys_are others =
    let outside : (u : User) → u ≡ 0 → stolen u ≡ false = λ u zero. ap stolen zero ∙ others.0 in
    super_unforged keys run is (record { pinned = keys_are.pinned; apart = λ u zero. keys_are.apart u (outside u zero) })
    (fewer_forged (IsOutside stolen) (λ u. u ≡ 0) outside keys run run others.1.no_forgery) others.1.no_collision

-- ---- what the user signed

-- what is shown and verifies under the user's key was released by its client, at an earlier step
abbrev UserGenuine : User → Keys → List Event → Type 0
UserGenuine u keys [] = Unit {0}
UserGenuine u keys (e ∷ older) = All (λ t. t.user ≡ u → IsReleasedText keys older t) (shown_by e.call) × UserGenuine u keys older

genuine : (u : User) (keys : Keys) (run : List Event) → UserGenuine u keys run → (t : Shown) → In t (shown run) → t.user ≡ u → (key : Key) → IsOwnKey keys t.user key → valid key t.text t.signature ≡ true → HasReleased t.user run t.text
genuine u keys [] none t i same key own v = absurd i
genuine u keys (e ∷ older) none t i same key own v =
    elim (in-append t (shown_by e.call) (shown older) i) [
      | inl j ↦ released_later e older t.user t.text (of_all (λ (x : Shown). x.user ≡ u → IsReleasedText keys older x) (shown_by e.call) none.0 t j same key own v)
      | inr j ↦ released_later e older t.user t.text (genuine u keys older none.1 t j same key own v)
    ]

-- what verifies by a table that lists the user's own keys does so by one of these
verified_one : (Own : Key → Type 0) (super : Key) (t : Table) (u : User) (v : Version) (text signature : Bytes) → ((v : Version) (k : Key) → key_at u v t ≡ Some k → Own k) → (u ≡ 0 → Own super)
    → verifies t u v text signature ≡ true → (not (u == 0) || valid super text signature) ≡ true → (k : Key) × Own k × (valid k text signature ≡ true)
verified_one Own super t u v text signature listed pinned by_table by_super = go (u == 0) refl by_table by_super
  where
    of_table : (k : Option Key) → key_at u v t ≡ k → option_map_or (λ k. valid k text signature) k false ≡ true → (k : Key) × Own k × (valid k text signature ≡ true)
    of_table None at h = absurd (cc h)
    of_table (Some k) at h = (k, listed v k at, h)

    go : (b : Bool) → (u == 0) ≡ b → (b || option_map_or (λ k. valid k text signature) (key_at u v t) false) ≡ true → (not b || valid super text signature) ≡ true → (k : Key) × Own k × (valid k text signature ≡ true)
    go true zero_is h g = (super, pinned (eqb-true u 0 zero_is), g)
    go false other h g = of_table (key_at u v t) refl h

user_comes : (v : tree_spec.View) (u : User) (i : PendingItem) → u < 64 → comes_after v u i ≡ true → i.cert.user ≡ u
unfolding comes_after
user_comes v u i low is = go (nat_lt u 64) (lt-ltb u 64 low) (raises v.table u i && nat_lt (option_map_or (λ r. r.version) (newest u v.structures) 0) (version_of u i.plan.vector)) is
  where
    go : (b : Bool) → b ≡ true → (c : Bool) → (if b then i.cert.user == u else c) ≡ true → i.cert.user ≡ u
    go true is c e = eqb-true i.cert.user u e
    go false is c e = absurd (cc is)

-- ---- parts

module _ (keys : Keys) (whole : List Event) (is_whole : IsRun keys whole) (pinned : key_form.Fits (pinned_key keys)) (u : User) (low : u < 64)
    (texts : List Bytes) (apart : NoneCollide texts texts) (first : (t : Bytes) → In t (first_texts (pinned_key keys)) → In t texts) where
  abbrev key : Key
  key = pinned_key keys

  abbrev certs : ℕ → List Cert
  certs n = certificates_up_to n u whole

  abbrev at : Reading → ℕ → Tree
  at reads n = world reads key (certs n)

  -- a handle names the user's part after the user's operations up to this number
  pub record IsHandleAt (n : ℕ) (handle : Handle) : Type 0 where
    pub released : HasAllUpTo n u whole
    pub all : IsWhole texts u handle
    pub names : (reads : Reading) → Agrees (told_by_texts texts) reads → Names reads u handle (at reads n)

  first_handle_at : IsHandleAt 0 (first_handle u key)
  first_handle_at = record {
    released = none_first u whole;
    all = first_whole key texts first u (omega (arith, low));
    names = λ reads agrees. first_names texts apart key pinned first reads agrees u (omega (arith, low));
  }

  -- what is known of an operation of a reply
  pub record IsItem (x : Lists) (i : PendingItem) : Type 0 where
    pub fits : cert.Fits i.cert
    pub user : i.plan.user ≡ i.cert.user
    pub number : i.plan.number ≡ i.cert.number
    pub next : i.plan.number ≡ number_of i.plan.user x + 1
    pub released : i.cert.user ≡ u → HasReleased u whole (cert.spell i.cert)

  -- that of the user's structure, or of the beginning
  part_at : (x : Lists) → ((z : Signed Structure) → In z x.structures → z.value.plan.user ≡ u → IsHandleAt z.value.plan.number z.value.handle) → IsHandleAt (number_of u x) (handle_in key x.structures u)
  part_at x each = user (nat_lt u 64) (lt-ltb u 64 low) (option_map_or (λ r. r.handle) (newest u x.structures) (first_handle u key))
    where
      go : (o : Option (Signed Structure)) → structure_of u x.structures ≡ o → IsHandleAt (option_map_or (λ z. z.value.plan.number) o 0) (option_map_or (λ z. z.value.handle) o (first_handle u key))
      go None none = first_handle_at
      go (Some z) is = let f = found_in (λ (y : Signed Structure). y.value.plan.user == u) x.structures z is in each z f.0 (eqb-true z.value.plan.user u f.1)

      user : (b : Bool) → b ≡ true → (other : Handle) → IsHandleAt (number_of u x) (if b then option_map_or (λ z. z.value.handle) (structure_of u x.structures) (first_handle u key) else other)
      user true is other = go (structure_of u x.structures) refl
      user false is other = absurd (cc is)

  module _ (x : Lists) (t : Table) (each : (i : PendingItem) → In i (items x) → IsItem x i) (once : pending_once (of_lists x) ≡ true) (old : IsHandleAt (number_of u x) (handle_in key x.structures u)) where
    abbrev v : tree_spec.View
    v = view_over key t x

    abbrev m : ℕ
    m = number_of u x

    abbrev mine : List PendingItem
    mine = filter (comes_after v u) x.others

    -- what the handle names
    stood : (reads : Reading) → Agrees (told_by_texts texts) reads → (users : Table) (i : ℕ) → is_table u i ≡ false → named reads users v u i ≡ at reads m u i
    stood reads agrees users i other =
        ap (λ (b : Bool). if b then Some (Principals users) else option_map reads.content (reads.inode u (tree_spec.handle_of v u) i)) other ∙ old.names reads agrees i other

    -- one operation of the user's, on the part as it stood
    next_there : (i : PendingItem) → In i (items x) → i.cert.user ≡ u → HasAllUpTo (m + 1) u whole × ((reads : Reading) (w : Tree) (j : ℕ) → w u j ≡ at reads m u j → after_read reads (actor_of t i) i.cert.changes w u j ≡ at reads (m + 1) u j)
    next_there i k same =
        let e = each i k in
        let number : i.cert.number ≡ m + 1 = sym e.number ∙ e.next ∙ ap (λ (y : User). number_of y x + 1) (e.user ∙ same) in
        let there : certificate u whole (m + 1) ≡ Some i.cert = ap (certificate u whole) (sym number) ∙ found keys whole is_whole u i.cert e.fits same (e.released same) in (
          all_more u whole m i.cert there old.released,
          λ reads w j stands.
              own_after reads (actor_of t i) (actor_in (at reads m) i.cert) i.cert.changes w (at reads m) u j same same refl stands
              ∙ sym (ap (λ (tree : Tree). tree u j) (world_more reads (genesis key) (certs m) i.cert))
              ∙ ap (λ (cs : List Cert). world reads key cs u j) (sym (one_more u whole m i.cert there)),
        )

    own_in : In x.own (items x)
    own_in = in-right x.own x.others (x.own ∷ []) (inl refl)

    -- the part in the view is that after some number of the user's operations
    pub record IsPart (n : ℕ) : Type 0 where
      pub released : HasAllUpTo n u whole
      pub part : (reads : Reading) → Agrees (told_by_texts texts) reads → (users : Table) (i : ℕ) → is_table u i ≡ false → tree reads users v u i ≡ at reads n u i

    -- where the own operation is another user's
    part_of_others : x.own.cert.user ≢ u → (n : ℕ) × IsPart n
    part_of_others other =
        elim (at_most_one (λ (i : PendingItem). i.plan.user) (comes_after v u) u x.others (once_front (λ (i : PendingItem). i.plan.user) x.others (x.own ∷ []) once) of_user) [
          | inl none ↦ (
            m,
            record {
              released = old.released;
              part = λ reads agrees users i place.
                  foreign_after reads (actor_of t x.own) x.own.cert.changes (tree_before reads users v) u i low other
                  ∙ ap (λ (is : List PendingItem). after_items reads t is (named reads users v) u i) none ∙ nothing reads (named reads users v) i ∙ stood reads agrees users i place;
            },
          )
          | inr (k, one) ↦ (
              let there = in-filter (comes_after v u) k x.others (subst (λ (is : List PendingItem). In k is) (sym one) (inl refl)) in
              let next = next_there k (in-left k x.others (x.own ∷ []) there.0) (user_comes v u k low there.1) in (
                m + 1,
                record {
                  released = next.0;
                  part = λ reads agrees users i place.
                      foreign_after reads (actor_of t x.own) x.own.cert.changes (tree_before reads users v) u i low other
                      ∙ ap (λ (is : List PendingItem). after_items reads t is (named reads users v) u i) one ∙ alone reads k (named reads users v) i ∙ next.1 reads (named reads users v) i (stood reads agrees users i place);
                },
              ))
        ]
      where
        of_user : (i : PendingItem) → In i x.others → comes_after v u i ≡ true → i.plan.user ≡ u
        of_user i j is = (each i (in-left i x.others (x.own ∷ []) j)).user ∙ user_comes v u i low is

        nothing : (reads : Reading) (w : Tree) (i : ℕ) → after_items reads t [] w u i ≡ w u i
        nothing reads w i = no_items reads t w u i

        alone : (reads : Reading) (k : PendingItem) (w : Tree) (i : ℕ) → after_items reads t (k ∷ []) w u i ≡ after_read reads (actor_of t k) k.cert.changes w u i
        alone reads k w i = one_item reads t k w u i

    -- where it is the user's
    part_of_user : x.own.cert.user ≡ u → IsPart (m + 1)
    part_of_user same =
        let none : mine ≡ [] = filter_none (comes_after v u) x.others (λ i j. not_mine i j (comes_after v u i) refl) in
        let next = next_there x.own own_in same in
        record {
          released = next.0;
          part = λ reads agrees users i place.
              next.1 reads (tree_before reads users v) i
              (ap (λ (is : List PendingItem). after_items reads t is (named reads users v) u i) none ∙ no_items reads t (named reads users v) u i ∙ stood reads agrees users i place);
        }
      where
        not_mine : (i : PendingItem) → In i x.others → (b : Bool) → comes_after v u i ≡ b → comes_after v u i ≡ false
        not_mine i j false is = is
        not_mine i j true is =
            let here = (each i (in-left i x.others (x.own ∷ []) j)).user ∙ user_comes v u i low is in
            let there = (each x.own own_in).user ∙ same in
            absurd (none_before (λ (k : PendingItem). k.plan.user) x.others x.own once i j (here ∙ sym there))

    pub some_part : (n : ℕ) × IsPart n
    some_part = elim (cases_eq x.own.cert.user u) [
      | inl same ↦ (m + 1, part_of_user same)
      | inr other ↦ part_of_others other
    ]

    -- the handle that the user signs
    signed_at : (handle : Handle) (records : List GroupRecord) (lost : List ℕ) → IsMade texts apart key x t handle records lost → x.own.cert.user ≡ u → IsHandleAt x.own.plan.number handle
    signed_at handle records lost made same =
        let part = part_of_user same in
        let of : made.own.principal ≡ u = head_is made.own.principal x.own.cert.user (map (λ (g : Stored). g.principal) made.raised) (raised_groups t x.own) made.outcome.principals ∙ same in
        let one = All-head (λ (s : Stored). IsStored made.blocks v s ⊎ IsUntouched v s) made.own made.raised made.outcome.stored in
        let before : IsWhole texts made.own.principal (tree_spec.handle_of v made.own.principal) = subst (λ (p : Principal). IsWhole texts p (handle_in key x.structures p)) (sym of) old.all in
        let all : IsWhole texts u handle =
        subst (λ (h : Handle). IsWhole texts u h) (sym made.handle_is) (subst (λ (p : Principal). IsWhole texts p made.own.handle) of (part_whole texts apart made.blocks v made.own made.among one made.own_in before)) in
        let number : x.own.plan.number ≡ m + 1 = (each x.own own_in).next ∙ ap (λ (y : User). number_of y x + 1) ((each x.own own_in).user ∙ same) in
        subst (λ (n : ℕ). IsHandleAt n handle) (sym number) (record {
          released = part.released;
          all = all;
          names = λ reads agrees i place.
              names reads agrees one of before i place ∙ part.part reads agrees made.told.users i place;
        })
      where
        head_is : (a b : ℕ) (xs ys : List ℕ) → a ∷ xs ≡ b ∷ ys → a ≡ b
        head_is a b xs ys e = cc e

        names : (reads : Reading) → Agrees (told_by_texts texts) reads → (IsStored made.blocks v made.own ⊎ IsUntouched v made.own) → made.own.principal ≡ u → IsWhole texts made.own.principal (tree_spec.handle_of v made.own.principal) → Names reads u handle (tree reads made.told.users v)
        names reads agrees one of before =
            subst (λ (h : Handle). Names reads u h (tree reads made.told.users v)) (sym made.handle_is)
            (subst (λ (p : Principal). Names reads p made.own.handle (tree reads made.told.users v)) of (part_names texts apart reads agrees made.told.users v made.blocks made.own made.among one made.own_in before))

  -- ---- views

  pub record IsView (x : View) : Type 0 where
    pub number : ℕ
    pub released : HasAllUpTo number u whole
    pub part : (reads : Reading) → Agrees (told_by_texts texts) reads → (users : Table) (i : ℕ) → is_table u i ≡ false → tree reads users (view_in key x) u i ≡ at reads number u i
    pub handle : x.signed.plan.user ≡ u → IsHandleAt x.signed.plan.number x.signed.handle

  module _ (older : List Event) (is : IsRun keys older) (none : UserGenuine u keys older) (within : (text : Bytes) → HasReleased u older text → HasReleased u whole text) (before : (y : View) → In y (views older) → IsView y) (w : User) (x : View)
      (over : IsTriedOver (owner keys w) (holds_at keys w older is).story older x) (known : IsKnown texts apart key x) (own : (v : Version) (k : Key) → key_at u v x.table ≡ Some k → IsOwnKey keys u k) where
    abbrev r : Reply
    r = of_lists x.lists

    -- the key that every client knows is the user's own, where the user is 0
    pinned_own_of : u ≡ 0 → IsOwnKey keys u key
    pinned_own_of zero = subst (λ (y : User). IsOwnKey keys y key) (sym zero) (pinned_own keys pinned)

    rules : IsUnbroken (known_in (owner keys w) (holds_at keys w older is).story) r
    rules = unbroken (known_in (owner keys w) (holds_at keys w older is).story) r over.good.judged.unbroken

    by : IsUnbrokenBy x.table x.lists
    by = unbroken_by x.table x.lists over.good.by_table

    shown_at : (z : Signed Structure) → In z x.lists.structures → z.value.plan.user ≡ u → IsHandleAt z.value.plan.number z.value.handle
    shown_at z j same =
        let text = structure.spell z.value in
        let was =
        over.good.judged.was_shown (shown_structure z)
        (in-left (shown_structure z) (map shown_structure x.lists.structures) (map shown_cert (items x.lists)) (map-in shown_structure x.lists.structures z j)) in
        let by_table = subst (λ (y : User). verifies x.table y (version_of 0 z.value.plan.vector) text z.signature ≡ true) same (structure_verified x.table x.lists by.structures z j) in
        let by_super = subst (λ (y : User). (not (y == 0) || valid key text z.signature) ≡ true) same (structure_by_super key r rules.by_super z j) in
        let signature = verified_one (IsOwnKey keys u) key x.table u (version_of 0 z.value.plan.vector) text z.signature own pinned_own_of by_table by_super in
        let has = genuine u keys older none (shown_structure z) was same signature.0 (subst (λ (y : User). IsOwnKey keys y signature.0) (sym same) signature.1) signature.2 in
        let k = in_views keys z.value.plan.user older z.value (released_structure keys older is z.value.plan.user z.value (structure_fits r over.good.judged.fits z j) has) in
        let (y, m, equal) = in-map signed_in (views older) z.value k in
        subst (λ (s : Structure). IsHandleAt s.plan.number s.handle) (sym equal) ((before y m).handle (ap (λ (s : Structure). s.plan.user) (sym equal) ∙ same))

    was_declared : (i : PendingItem) → In i (items x.lists) → i.cert.user ≡ u → HasReleased u whole (cert.spell i.cert)
    was_declared i j same =
        let text = cert.spell i.cert in
        let was =
        over.good.judged.was_shown (shown_cert i) (in-right (shown_cert i) (map shown_structure x.lists.structures) (map shown_cert (items x.lists)) (map-in shown_cert (items x.lists) i j)) in
        let by_table = subst (λ (y : User). verifies x.table y (version_of 0 i.plan.vector) text i.signature ≡ true) same (cert_verified x.table x.lists by.certs i j) in
        let by_super = subst (λ (y : User). (not (y == 0) || valid key text i.signature) ≡ true) same (cert_by_super key r rules.by_super i j) in
        let signature = verified_one (IsOwnKey keys u) key x.table u (version_of 0 i.plan.vector) text i.signature own pinned_own_of by_table by_super in
        let has = genuine u keys older none (shown_cert i) was same signature.0 (subst (λ (y : User). IsOwnKey keys y signature.0) (sym same) signature.1) signature.2 in
        within text (subst (λ (y : User). HasReleased y older text) same has)

    item_is : (i : PendingItem) → In i (items x.lists) → IsItem x.lists i
    item_is i j =
        let planned = (ordered r rules.in_order).planned i j in
        record {
          fits = cert_fits r over.good.judged.fits i j;
          user = planned.0;
          number = planned.1;
          next = next_number x.table x.lists by.rules i j;
          released = was_declared i j;
        }

    view_is : IsView x
    view_is =
        let part = some_part x.lists x.table item_is (ordered r rules.in_order).once (part_at x.lists shown_at) in
        record { number = part.0; released = part.1.released; part = part.1.part; handle = signed }
      where
        signed : x.signed.plan.user ≡ u → IsHandleAt x.signed.plan.number x.signed.handle
        signed same =
            let planned = (ordered r rules.in_order).planned x.lists.own (in-right x.lists.own x.lists.others (x.lists.own ∷ []) (inl refl)) in
            let of : x.lists.own.cert.user ≡ u = sym planned.0 ∙ ap (λ (p : Plan). p.user) (sym over.plan) ∙ same in
            subst (λ (p : Plan). IsHandleAt p.number x.signed.handle) (sym over.plan)
            (signed_at x.lists x.table item_is (ordered r rules.in_order).once (part_at x.lists shown_at) x.signed.handle known.records known.lost known.made of)

  pub all_views : (run : List Event) → IsRun keys run → UserGenuine u keys run → ((text : Bytes) → HasReleased u run text → HasReleased u whole text) → ((t : Bytes) → In t (flat_map hashed_at run) → In t texts)
      → ((x : View) → In x (views run) → (v : Version) (k : Key) → key_at u v x.table ≡ Some k → IsOwnKey keys u k) → (x : View) → In x (views run) → IsView x
  all_views [] is none within inside own x i = absurd i
  all_views (e ∷ older) is none within inside own x i =
      let later = λ (t : Bytes) (j : In t (flat_map hashed_at older)). inside t (in-right t (hashed_at e) (flat_map hashed_at older) j) in
      let within_older = λ (text : Bytes) (has : HasReleased u older text). within text (released_later e older u text has) in
      let accepted = accepted_by e.call (client_of e.user older) e.after (tried_view e.user older) in
      let before = all_views older is.2 none.1 within_older later (λ y j. own y (in-right y accepted (views older) j)) in
      elim (in-append x accepted (views older) i) [
        | inl here ↦ view_is older is.2 none.1 within_older before e.user x (over_here keys e older is x here) (all_known keys texts apart first (e ∷ older) is inside x i) (own x i)
        | inr there ↦ before x there
      ]

-- ---- the law

user_genuine : (stolen : User → Bool) (u : User) → stolen u ≡ false → (keys : Keys) → ((w : User) → stolen w ≡ false → AreApart (keys w)) → (whole : List Event) → ((w : User) → LeavesOnce keys w whole) → (run : List Event) → NoneForgedOf (IsOutside stolen) keys whole run → UserGenuine u keys run
user_genuine stolen u out keys apart whole once [] none = tt
user_genuine stolen u out keys apart whole once (e ∷ older) none =
    (All-weaker (λ (t : Shown). stolen t.user ≡ false → IsGenuine keys whole older t) (λ (t : Shown). t.user ≡ u → IsReleasedText keys older t) (λ t g same. g (ap stolen same ∙ out) (apart t.user (ap stolen same ∙ out)) (once t.user)) (shown_by e.call) none.0, user_genuine stolen u out keys apart whole once older none.1)

pub own_parts : (stolen : User → Bool) (keys : Keys) (run : List Event) → IsRun keys run → AreKeysOf (IsOutside stolen) keys → StolenPremises stolen keys run → OwnPartsStand stolen keys run
own_parts stolen keys run is keys_are others =
    to_all (λ x. (u : User) → u < 64 → stolen u ≡ false → IsOwnPart keys run u x) (views run)
    (λ x i u low out. (
    let first = λ (t : Bytes) (j : In t (first_texts (pinned_key keys))). in-right t (flat_map hashed_at run) (first_texts (pinned_key keys)) j in
    let v =
    all_views keys run is keys_are.pinned u low (hashed keys run) others.1.no_collision first run is (user_genuine stolen u out keys keys_are.apart run (λ w. leaves_once keys run w is) run others.1.no_forgery) (λ text has. has)
    (λ t j. in-left t (flat_map hashed_at run) (first_texts (pinned_key keys)) j) (λ y j v k at. own_key_at (IsOutside stolen) keys run is (super_of stolen keys run is keys_are others) others.1.added y j u v k out at) x i in
    record { number = v.number; released = v.released; part = v.part }))

pub own_keys_stand : (stolen : User → Bool) (keys : Keys) (run : List Event) → IsRun keys run → AreKeysOf (IsOutside stolen) keys → StolenPremises stolen keys run → ListOwnKeysOf (IsOutside stolen) keys run
own_keys_stand stolen keys run is keys_are others = list_own_keys (IsOutside stolen) keys run is (super_of stolen keys run is keys_are others) others.1.added
