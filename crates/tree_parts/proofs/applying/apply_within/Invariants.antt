use Rattle.std.proofs.Common.{◌≡◌, ℕ, take}
use Rattle.update_cert.specs.World.{Actor, Tree}
use Rattle.update_cert.specs.Reading.{Reading, after_read, void_of_read}
use Rattle.tree_parts.specs.Blocks.{Agrees}
use Rattle.tree_parts.specs.Part.{IsPartOf, handle, slot_at}
use Rattle.tree_parts.specs.Asked.{IsReadFrom, slot_within}
use Rattle.tree_parts.specs.declared.scope.Scope.TheVariants as scopes
use Rattle.tree_parts.proofs.AskedLaws.{HasMet}
use Rattle.tree_parts.proofs.applying.apply_within.Given as goal

abbrev pub invariant-loop-place : goal.invariant-loop-place
invariant-loop-place g l = record {
  principal : l.changed.table.principal ≡ l.fn.part.table.principal;
  stands : handle l.changed ≡ handle l.fn.part;
  read : IsReadFrom (g.B.Blocks.held l.blocks) l.changed;
  part : (reads : Reading) → Agrees (g.B.Blocks.held l.blocks) reads → (tree : Tree) (actor : Actor) → l.scope ≡ scopes.All → IsPartOf reads l.fn.part tree → actor.user ≡ l.cert.user → actor.member l.fn.part.table.principal ≡ l.is_member
      → IsPartOf reads l.changed (after_read reads actor (take l.place l.cert.changes) tree);
  voids : (reads : Reading) → Agrees (g.B.Blocks.held l.blocks) reads → (tree : Tree) (actor : Actor) → l.scope ≡ scopes.All → IsPartOf reads l.fn.part tree → actor.user ≡ l.cert.user → actor.member l.fn.part.table.principal ≡ l.is_member
      → l.numbers.items ≡ void_of_read reads actor l.fn.part.table.principal (take l.place l.cert.changes) tree;
  slots : (reads : Reading) → Agrees (g.B.Blocks.held l.blocks) reads → (actor : Actor) → actor.user ≡ l.cert.user → actor.member l.fn.part.table.principal ≡ l.is_member
      → (i : ℕ) → slot_at reads l.changed i ≡ slot_within l.scope reads actor l.fn.part.table.principal i (take l.place l.cert.changes) (slot_at reads l.fn.part i);
  taken : (actor : Actor) → actor.user ≡ l.cert.user → actor.member l.fn.part.table.principal ≡ l.is_member → HasMet (g.B.Blocks.held l.blocks) l.scope actor l.cert.changes l.fn.part l.place;
}
