-- A part as it is stored.
use Rattle.std.proofs.Common.{◌≡◌, ℕ, Bool, true, false, List, Option, Some, None, refl, sym, ap, ◌∙◌}
use Rattle.std.specs.Option.{option_map}
use Rattle.layout.specs.Types.{Digest, Principal}
use Rattle.itable.specs.ITable.{ITable, digest_at, loaded}
use Rattle.directory.specs.Directory.{Entry}
use Rattle.principals.specs.Table.{Table}
use Rattle.update_cert.specs.World.{Content, Directory, is_table}
use Rattle.update_cert.specs.Reading.{Reading}
use Rattle.tree_parts.specs.Part.{Changed, IsPartOf, Laid, Part, Slot, content_of, handle, slot_here, stands_at}
use Rattle.tree_parts.specs.Slots.{directory_digest, slot_digest}
use Rattle.tree_parts.proofs.LoadLaws.{loaded_as, slot_loaded, slot_unloaded}
use Rattle.client_tree.specs.View.{View, handle_of, tree}
use Rattle.client_tree.specs.Tree.{ReadsChanged, stored_at}

slot_read : (reads : Reading) (s : Option Slot) → ((digest : Digest) (entries : List Entry) → s ≡ Some (Changed digest entries) → reads.content (directory_digest entries) ≡ Directory entries) → option_map reads.content (option_map slot_digest s) ≡ option_map (content_of reads) s
slot_read reads None changed = refl
slot_read reads (Some (Laid d)) changed = refl
slot_read reads (Some (Changed d entries)) changed = ap (λ (x : Content). Some x) (changed d entries refl)

laid_read : (reads : Reading) (digest : Option Digest) → option_map reads.content digest ≡ option_map (content_of reads) (option_map Laid digest)
laid_read reads None = refl
laid_read reads (Some d) = refl

module _ (reads : Reading) (users : Table) (x : View) (p : Principal) (part : Part) (t : ITable) (i : ℕ) (of_t : t.principal ≡ p) (of_part : part.table.principal ≡ p) (stands_on : handle part ≡ handle_of x p) (carried : t.unloaded ≡ part.table.unloaded)
    (is : IsPartOf reads part (tree reads users x)) (changed : ReadsChanged reads part) (digests : (j : ℕ) → loaded t j ≡ true → is_table p j ≡ false → digest_at t j ≡ option_map slot_digest (slot_here part j)) (place : is_table p i ≡ false) where
  in_tree : tree reads users x p i ≡ stands_at reads part i
  in_tree = ap (λ (q : ℕ). tree reads users x q i) (sym of_part) ∙ is.stands i (ap (λ (q : ℕ). is_table q i) of_part ∙ place)

  world_step : (b : Bool) → loaded t i ≡ b → option_map reads.content (stored_at reads (handle_of x p) t i) ≡ stands_at reads part i
  world_step true here =
      let there : loaded part.table i ≡ true = sym (loaded_as t part.table i carried) ∙ here in
      rw here (ap (option_map reads.content) (digests i here place) ∙ slot_read reads (slot_here part i) (changed i) ∙ sym (ap (option_map (content_of reads)) (slot_loaded reads part i there)))
  world_step false away =
      let there : loaded part.table i ≡ false = sym (loaded_as t part.table i carried) ∙ away in
      let same : reads.inode t.principal (handle_of x p) i ≡ reads.inode part.table.principal (handle part) i = ap (λ (q : ℕ). reads.inode q (handle_of x p) i) (of_t ∙ sym of_part) ∙ ap (λ (h : Digest). reads.inode part.table.principal h i) (sym stands_on) in
      rw away (ap (option_map reads.content) same ∙ laid_read reads (reads.inode part.table.principal (handle part) i) ∙ sym (ap (option_map (content_of reads)) (slot_unloaded reads part i there)))

  -- the i-table has what stands in the tree
  pub world_is : option_map reads.content (stored_at reads (handle_of x p) t i) ≡ tree reads users x p i
  world_is = world_step (loaded t i) refl ∙ sym in_tree
