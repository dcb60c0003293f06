-- Each handle that a structure of an accepted view names has all that it names among texts that have the blocks of the run;
-- so the parts of a view stand on such handles where clients released its structures and certificates.
use Rattle.std.proofs.Common.{◌≤◌, List, [], ◌∷◌, length, map, refl, sym, subst, inl, inr, arith}
use Rattle.std.specs.Prelude.{◌⊎◌}
use Rattle.std.specs.Int.{w16}
use Rattle.std.specs.List.{Contains}
use Rattle.layout.specs.Laws.{in_range}
use Rattle.layout.specs.Types.{Bytes, Digest, Key}
use Rattle.itable.specs.File.{NoneCollide}
use Rattle.principals.specs.Table.{Table}
use Rattle.principals.specs.TableText.{table, key as key_form}
use Rattle.principals.proofs.SizeLaws.{text_size}
use Rattle.version_order.specs.Structure.{Structure}
use Rattle.update_cert.specs.Cert.{Cert, cert}
use Rattle.pending_list.specs.declared.signed.Signed.{Signed}
use Rattle.pending_list.specs.Reply.{PendingItem, reply}
use Rattle.reply_rules.specs.Lists.{Lists, items}
use Rattle.reply_check.specs.FirstBroken.{view_over}
use Rattle.client_tree.specs.Genesis.{first_texts}
use Rattle.client_tree.specs.Tree.{IsStored, IsUntouched, Stored}
use Rattle.client_tree.specs.View.{handle_in, newest, structure_of as shown_structure_of}
use Rattle.client_tree.specs.View as tree_spec
use Rattle.agreement.specs.Runs.{View, structures, AreAccepted}
use Rattle.agreement.proofs.Formed.{cert_fits}
use Rattle.agreement.proofs.Members.{In, contains_in, in-left, in-map, in-right, map-in, of_all}
use Rattle.client_runs.specs.Released.{Shown, shown_cert, shown_in, shown_structure, views}
use Rattle.client_runs.specs.Runs.{Event, IsRun, Keys, pinned}
use Rattle.client_runs.proofs.Replies.{of_lists}
use Rattle.fork_consistency.specs.Premises.{HasReleased, PinnedIsKey}
use Rattle.fork_consistency.proofs.Agreed.{are_accepted, item_released}
use Rattle.fork_consistency.proofs.AllWhole.{EachHandle, IsPlain, all_whole, low_all, names_by, part_by}
use Rattle.fork_consistency.proofs.Backed.{IsBacked}
use Rattle.fork_consistency.proofs.Begun.{AmongThem, IsBegun, begun_by_blocks}
use Rattle.fork_consistency.proofs.ByCertificates.{super_honest, view}
use Rattle.fork_consistency.proofs.Certificates.{text_of}
use Rattle.fork_consistency.proofs.Filled.{first_filled, part_filled}
use Rattle.fork_consistency.proofs.Genuine.{IsGenuineRun, released_structure}
use Rattle.fork_consistency.proofs.Judging.{structure_fits}
use Rattle.fork_consistency.proofs.LaidOut.{begun_content}
use Rattle.fork_consistency.proofs.Origins.{AreBlocks, IsKnown, IsMade, views_known}
use Rattle.fork_consistency.proofs.Served.{IsContent, IsFilled}
use Rattle.fork_consistency.proofs.Slots.{IsMadeBy}
use Rattle.fork_consistency.proofs.Holds.{signed_in}
use Rattle.fork_consistency.proofs.Views.{in_views}

-- each handle that a structure names has all that it names among the texts
abbrev pub NamesFilled : List Bytes → Structure → Type 0
NamesFilled texts z = EachHandle (IsFilled texts) z

module _ (texts : List Bytes) (apart : NoneCollide texts texts) (key : Key) (first : (t : Bytes) → In t (first_texts key) → In t texts) (pinned : key_form.Fits key) where
  abbrev AreNamed : List (Signed Structure) → Type 0
  AreNamed zs = (z : Signed Structure) → In z zs → NamesFilled texts z.value

  abbrev AreMade : Lists → Type 0
  AreMade x = (i : PendingItem) → In i (items x) → (d : Digest) → IsMadeBy i.cert.changes d → IsContent texts d

  pub backed_lists : (x : Lists) → AreNamed x.structures → AreMade x → (t : Table) → IsBacked texts (view_over key t x)
  backed_lists x each made t = record { handles = part_by (IsFilled texts) key (first_filled key texts apart first pinned) x.structures each; made = made }

  -- the handles that are made of them are such
  module _ (x : View) (known : IsKnown texts apart key x) (p : IsPlain texts apart key first x) (each : AreNamed x.lists.structures) (made : AreMade x.lists) (fits : table.Fits x.table) where
    abbrev m : IsMade texts apart key x.lists x.table x.signed.handle known.records known.lost
    m = known.made

    abbrev v : tree_spec.View
    v = view_over key x.table x.lists

    few : length (table.spell x.table) ≤ 4194304
    few = omega (arith, text_size x.table fits.0 (in_range w16 0 65535 (length x.table.rows) fits.1.0).1)

    stored_filled : (s : Stored) → In s (m.own ∷ m.raised) → ((t : Bytes) → In t s.texts → In t texts) → IsFilled texts s.principal s.handle
    stored_filled s i into =
        part_filled texts apart m.blocks m.among v (backed_lists x.lists each made x.table) s (of_all (λ (q : Stored). IsStored m.blocks v q ⊎ IsUntouched v q) (m.own ∷ m.raised) m.outcome.stored s i) into
        (low_all texts apart key first x known p.read p.user p.plan p.each s i) (λ superuser. (fits, few))

    names_filled : NamesFilled texts x.signed
    names_filled = names_by texts apart key first x known p.read p.user p.plan p.each (IsFilled texts) stored_filled each

  -- so it is over a run of accepted views
  pub record IsNamedAfter (x : View) : Type 0 where
    pub structures : AreNamed x.lists.structures
    pub signed : NamesFilled texts x.signed

  pub all_filled : (run : List View) → AreAccepted run → ((x : View) → In x run → IsKnown texts apart key x) → ((x : View) → In x run → AreMade x.lists) → ((x : View) → In x run → table.Fits x.table) → (x : View) → In x run → IsNamedAfter x
  all_filled [] is known made fits x i = absurd i
  all_filled (y ∷ older) is known made fits x (inr i) = all_filled older is.1 (λ z j. known z (inr j)) (λ z j. made z (inr j)) (λ z j. fits z (inr j)) x i
  all_filled (y ∷ older) is known made fits x (inl e) = subst IsNamedAfter (sym e) (go (all_filled older is.1 (λ z j. known z (inr j)) (λ z j. made z (inr j)) (λ z j. fits z (inr j))))
    where
      plain : IsPlain texts apart key first y
      plain = (all_whole texts apart key first (y ∷ older) is known y (inl refl)).0

      before : ((w : View) → In w older → IsNamedAfter w) → AreNamed y.lists.structures
      before earlier z j =
          let there = of_all (Contains (map (λ (w : View). w.signed) older)) (structures y) is.0.released z.value (map-in (λ (s : Signed Structure). s.value) y.lists.structures z j) in
          let (w, k, same) = in-map (λ (w : View). w.signed) older z.value (contains_in z.value (map (λ (w : View). w.signed) older) there) in
          subst (NamesFilled texts) (sym same) (earlier w k).signed

      go : ((w : View) → In w older → IsNamedAfter w) → IsNamedAfter y
      go earlier = record {
        structures = before earlier;
        signed = names_filled y (known y (inl refl)) plain (before earlier) (made y (inl refl)) (fits y (inl refl));
      }

-- ---- over a run

module _ (keys : Keys) (run : List Event) (is : IsRun keys run) (is_key : PinnedIsKey keys) (premises : IsGenuineRun keys run) (texts : List Bytes) (apart : NoneCollide texts texts) (first : (t : Bytes) → In t (first_texts (pinned keys)) → In t texts) (inside : AreBlocks keys texts apart first run) where
  abbrev pinned_key : Key
  pinned_key = pinned keys

  abbrev pinned_fits : key_form.Fits (pinned keys)
  pinned_fits = is_key

  -- a certificate that its user's client released was begun with contents that were laid out
  begun : (c : Cert) → cert.Fits c → HasReleased c.user run (cert.spell c) → IsBegun (AmongThem texts) c
  begun c fits has =
      let t = text_of keys run is c.user c fits refl has in
      subst (IsBegun (AmongThem texts)) t.value (begun_by_blocks texts keys c.user run is inside t.text t.one t.there t.read)

  made_released : (c : Cert) → cert.Fits c → HasReleased c.user run (cert.spell c) → (d : Digest) → IsMadeBy c.changes d → IsContent texts d
  made_released c fits has d made = begun_content texts pinned_key first c (begun c fits has) d made

  accepted : AreAccepted (views run)
  accepted = are_accepted keys run is is_key premises

  plain_views : (x : View) → In x (views run) → IsPlain texts apart pinned_key first x
  plain_views x i = (all_whole texts apart pinned_key first (views run) accepted (views_known keys texts apart first run is inside) x i).0

  made_in_view : (x : View) → In x (views run) → AreMade texts apart pinned_key first pinned_fits x.lists
  made_in_view x n i j d made = made_released i.cert ((plain_views x n).read i j) (item_released keys run is is_key premises x n i j) d made

  views_filled : (x : View) → In x (views run) → IsNamedAfter texts apart pinned_key first pinned_fits x
  views_filled =
      all_filled texts apart pinned_key first pinned_fits (views run) accepted (views_known keys texts apart first run is inside) made_in_view
      (λ x i. (view keys run is (super_honest keys run is_key premises) x i).at.fits)

  -- the parts of an accepted view
  pub view_backed : (x : View) → In x (views run) → IsBacked texts (view_over pinned_key x.table x.lists)
  view_backed x i = backed_lists texts apart pinned_key first pinned_fits x.lists (views_filled x i).structures (made_in_view x i) x.table

  -- and those of lists that show nothing but what clients released
  pub lists_backed : (x : Lists) → reply.Fits (of_lists x) → ((t : Shown) → In t (shown_in (of_lists x)) → HasReleased t.user run t.text) → (t : Table) → IsBacked texts (view_over pinned_key t x)
  lists_backed x fits released t = backed_lists texts apart pinned_key first pinned_fits x named made t
    where
      named : AreNamed texts apart pinned_key first pinned_fits x.structures
      named z j =
          let has = released (shown_structure z) (in-left (shown_structure z) (map shown_structure x.structures) (map shown_cert (items x)) (map-in shown_structure x.structures z j)) in
          let there = in_views keys z.value.plan.user run z.value (released_structure keys run is z.value.plan.user z.value (structure_fits (of_lists x) fits z j) has) in
          let (y, k, same) = in-map signed_in (views run) z.value there in
          subst (NamesFilled texts) (sym same) (views_filled y k).signed

      made : AreMade texts apart pinned_key first pinned_fits x
      made i j d is_made =
          made_released i.cert (cert_fits (of_lists x) fits i j)
          (released (shown_cert i) (in-right (shown_cert i) (map shown_structure x.structures) (map shown_cert (items x)) (map-in shown_cert (items x) i j))) d is_made
