-- What stands in the tree of a view is what the handles name, or a pending change that may be made there stands for it.
use Rattle.std.proofs.Common.{◌≡◌, Bool, true, false, ◌==◌, ◌&&◌, List, [], ◌∷◌, Option, filter, refl, sym, ◌∙◌, inl, inr, if◌then◌else◌}
use Rattle.std.specs.Prelude.{◌⊎◌}
use Rattle.std.proofs.lemmas.Bool.{and_parts, eqb-true}
use Rattle.layout.specs.Types.{Digest, INumber, Key, Principal}
use Rattle.principals.specs.Table.{Table}
use Rattle.update_cert.specs.Change.{Change}
use Rattle.update_cert.specs.Reading.{Reading, after_read, read_change}
use Rattle.update_cert.specs.World.{Actor, Content, Tree, after, after_change, becomes, content_after, fits, has_effect, permitted}
use Rattle.pending_list.specs.Reply.{PendingItem}
use Rattle.client_tree.specs.View.{actor_of, after_items, comes_after, named, tree_before}
use Rattle.reply_rules.specs.Lists.{items}
use Rattle.agreement.specs.Runs.{View}
use Rattle.agreement.specs.Worlds.{view_in}
use Rattle.agreement.proofs.Members.{In, in-filter, in-left, in-right, in_contains}
use Rattle.fork_consistency.specs.Signed.{ChangesAreCaused, HasCause, IsCertSignedByItsUser}

module _ (p : Principal) (i : INumber) where
  -- among the changes one of this place, that this actor may make
  record IsAmong (actor : Actor) (cs : List (Change Digest)) : Type 0 where
    change : Change Digest
    within : In change cs
    principal : change.principal ≡ p
    place : change.i_number ≡ i
    may : permitted actor change ≡ true

  may_change : (actor : Actor) (c : Change Content) (content : Option Content) → has_effect actor c content ≡ true → permitted actor c ≡ true
  unfolding has_effect
  may_change actor c content effect = (and_parts (permitted actor c) (fits actor c content) effect).0

  one_change : (actor : Actor) (reads : Reading) (c : Change Digest) (cs : List (Change Digest)) (tree : Tree) → (after_change actor (read_change reads c) tree p i ≡ tree p i) ⊎ IsAmong actor (c ∷ cs)
  unfolding content_after
  one_change actor reads c cs tree = go ((p == c.principal) && (i == c.i_number)) refl (has_effect actor (read_change reads c) (tree p i)) refl
    where
      go : (b : Bool) → ((p == c.principal) && (i == c.i_number)) ≡ b → (e : Bool) → has_effect actor (read_change reads c) (tree p i) ≡ e
          → ((if b then (if e then becomes actor.number (read_change reads c).action (tree p i) else tree p i) else tree p i) ≡ tree p i) ⊎ IsAmong actor (c ∷ cs)
      go false at e effect = inl refl
      go true at false effect = inl refl
      go true at true effect =
          let here = and_parts (p == c.principal) (i == c.i_number) at in
          inr (record { change = c; within = inl refl; principal = sym (eqb-true p c.principal here.0); place = sym (eqb-true i c.i_number here.1); may = may_change actor (read_change reads c) (tree p i) effect })

  changed : (actor : Actor) (reads : Reading) (cs : List (Change Digest)) (tree : Tree) → (after_read reads actor cs tree p i ≡ tree p i) ⊎ IsAmong actor cs
  unfolding after
  changed actor reads [] tree = inl refl
  changed actor reads (c ∷ cs) tree =
      elim (changed actor reads cs (after_change actor (read_change reads c) tree)) [
        | inl same ↦ elim (one_change actor reads c cs tree) [
          | inl at ↦ inl (same ∙ at)
          | inr found ↦ inr found
        ]
        | inr found ↦ inr (record { change = found.change; within = inr found.within; principal = found.principal; place = found.place; may = found.may })
      ]

  -- among pending operations one with such a change
  record IsPending (t : Table) (is : List PendingItem) : Type 0 where
    item : PendingItem
    within : In item is
    among : IsAmong (actor_of t item) item.cert.changes

  items_changed : (t : Table) (reads : Reading) (is : List PendingItem) (tree : Tree) → (after_items reads t is tree p i ≡ tree p i) ⊎ IsPending t is
  unfolding after_items
  items_changed t reads [] tree = inl refl
  items_changed t reads (k ∷ is) tree =
      elim (items_changed t reads is (after_read reads (actor_of t k) k.cert.changes tree)) [
        | inl same ↦ elim (changed (actor_of t k) reads k.cert.changes tree) [
          | inl at ↦ inl (same ∙ at)
          | inr found ↦ inr (record { item = k; within = inl refl; among = found })
        ]
        | inr found ↦ inr (record { item = found.item; within = inr found.within; among = found.among })
      ]

module _ (pinned : Key) (x : View) (certificates : (k : PendingItem) → In k (items x.lists) → IsCertSignedByItsUser pinned x.table k) where
  cause : (p : Principal) (i : INumber) (k : PendingItem) → In k (items x.lists) → IsAmong p i (actor_of x.table k) k.cert.changes → HasCause pinned x p i
  cause p i k within a = record {
    pending = k;
    there = in_contains k (items x.lists) within;
    signed = certificates k within;
    change = a.change;
    listed = in_contains a.change k.cert.changes a.within;
    principal = a.principal;
    place = a.place;
    may = a.may;
  }

  pub changes_are_caused : ChangesAreCaused pinned x
  changes_are_caused reads users p i =
      let v = view_in pinned x in
      let own = x.lists.own in
      elim (changed p i (actor_of x.table own) reads own.cert.changes (tree_before reads users v)) [
        | inl same ↦ elim (items_changed p i x.table reads (filter (comes_after v p) x.lists.others) (named reads users v)) [
          | inl at ↦ inl (same ∙ at)
          | inr found ↦ inr (cause p i found.item (in-left found.item x.lists.others (own ∷ []) (in-filter (comes_after v p) found.item x.lists.others found.within).0) found.among)
        ]
        | inr found ↦ inr (cause p i own (in-right own x.lists.others (own ∷ []) (inl refl)) found)
      ]
