-- Where a digest comes from under which something is laid in a part: it was there before, or a change made or put it.
use Rattle.std.proofs.Common.{◌≡◌, Bool, true, false, ◌==◌, ◌&&◌, List, [], ◌∷◌, Option, Some, refl, inl, inr, if◌then◌else◌}
use Rattle.std.specs.Prelude.{◌⊎◌}
use Rattle.layout.specs.Types.{Digest, INumber, Principal}
use Rattle.principals.specs.Table.{Table}
use Rattle.update_cert.specs.Change.{Action, Make, Put, Remove, Link, Unlink, AddUser, AddMember, DropMember, SetKey, Change}
use Rattle.update_cert.specs.Reading.{Reading}
use Rattle.update_cert.specs.World.{Actor}
use Rattle.tree_parts.specs.Part.{Slot, Laid}
use Rattle.tree_parts.specs.Slots.{slot_after, slot_after_change, slot_becomes, slot_changes}
use Rattle.pending_list.specs.Reply.{PendingItem}
use Rattle.client_tree.specs.Opened.{slot_after_items}
use Rattle.client_tree.specs.View.{actor_of}
use Rattle.agreement.proofs.Members.{In}

-- the action makes or puts what this digest is of
abbrev pub Lays : Action Digest → Digest → Type 0
Lays (Make inode) d = inode ≡ d
Lays (Put inode) d = inode ≡ d
Lays Remove d = ⊥
Lays (Link entry) d = ⊥
Lays (Unlink name) d = ⊥
Lays (AddUser u key) d = ⊥
Lays (AddMember g u) d = ⊥
Lays (DropMember g u) d = ⊥
Lays (SetKey u key) d = ⊥

-- so one of these changes does
abbrev pub IsMadeBy : List (Change Digest) → Digest → Type 0
IsMadeBy cs d = (c : Change Digest) × In c cs × Lays c.action d

-- and one of the changes of these operations
abbrev pub IsMadeByItems : List PendingItem → Digest → Type 0
IsMadeByItems items d = (x : PendingItem) × In x items × IsMadeBy x.cert.changes d

module _ (reads : Reading) (d : Digest) where
  abbrev IsLaid : Option Slot → Type 0
  IsLaid s = s ≡ Some (Laid d)

  becomes_laid : (a : Action Digest) (s : Option Slot) → IsLaid (slot_becomes reads a s) → IsLaid s ⊎ Lays a d
  becomes_laid (Make inode) s is = inr (cc is)
  becomes_laid (Put inode) s is = inr (cc is)
  becomes_laid Remove s is = absurd (cc is)
  becomes_laid (Link entry) s is = absurd (cc is)
  becomes_laid (Unlink name) s is = absurd (cc is)
  becomes_laid (AddUser u key) s is = inl is
  becomes_laid (AddMember g u) s is = inl is
  becomes_laid (DropMember g u) s is = inl is
  becomes_laid (SetKey u key) s is = inl is

  change_laid : (actor : Actor) (c : Change Digest) (s : Option Slot) → IsLaid (slot_after_change reads actor c s) → IsLaid s ⊎ Lays c.action d
  unfolding slot_after_change
  change_laid actor c s is = go (slot_changes reads actor c s) is
    where
      go : (b : Bool) → IsLaid (if b then slot_becomes reads c.action s else s) → IsLaid s ⊎ Lays c.action d
      go true is = becomes_laid c.action s is
      go false is = inl is

  -- after changes in turn
  pub changes_laid : (actor : Actor) (p : Principal) (i : INumber) (cs : List (Change Digest)) (s : Option Slot) → IsLaid (slot_after reads actor p i cs s) → IsLaid s ⊎ IsMadeBy cs d
  unfolding slot_after
  changes_laid actor p i [] s is = inl is
  changes_laid actor p i (c ∷ cs) s is = go ((c.principal == p) && (c.i_number == i)) (changes_laid actor p i cs) is
    where
      later : IsLaid s ⊎ IsMadeBy cs d → IsLaid s ⊎ IsMadeBy (c ∷ cs) d
      later (inl before) = inl before
      later (inr (x, j, names)) = inr (x, inr j, names)

      here : IsLaid (slot_after_change reads actor c s) ⊎ IsMadeBy cs d → IsLaid s ⊎ IsMadeBy (c ∷ cs) d
      here (inl before) = elim (change_laid actor c s before) [ inl was ↦ inl was | inr names ↦ inr (c, inl refl, names) ]
      here (inr (x, j, names)) = inr (x, inr j, names)

      go : (b : Bool) → ((t : Option Slot) → IsLaid (slot_after reads actor p i cs t) → IsLaid t ⊎ IsMadeBy cs d)
          → IsLaid (if b then slot_after reads actor p i cs (slot_after_change reads actor c s) else slot_after reads actor p i cs s) → IsLaid s ⊎ IsMadeBy (c ∷ cs) d
      go true rest is = here (rest (slot_after_change reads actor c s) is)
      go false rest is = later (rest s is)

  -- after operations in turn
  pub items_laid : (t : Table) (p : Principal) (i : INumber) (items : List PendingItem) (s : Option Slot) → IsLaid (slot_after_items reads t p i items s) → IsLaid s ⊎ IsMadeByItems items d
  unfolding slot_after_items
  items_laid t p i [] s is = inl is
  items_laid t p i (x ∷ xs) s is = go (items_laid t p i xs (slot_after reads (actor_of t x) p i x.cert.changes s) is)
    where
      first : IsLaid s ⊎ IsMadeBy x.cert.changes d → IsLaid s ⊎ IsMadeByItems (x ∷ xs) d
      first (inl before) = inl before
      first (inr made) = inr (x, inl refl, made)

      go : IsLaid (slot_after reads (actor_of t x) p i x.cert.changes s) ⊎ IsMadeByItems xs d → IsLaid s ⊎ IsMadeByItems (x ∷ xs) d
      go (inl here) = first (changes_laid (actor_of t x) p i x.cert.changes s here)
      go (inr (y, j, made)) = inr (y, inr j, made)
