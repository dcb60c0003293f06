-- On which handle a part stands, and which operations come after it.
use Rattle.std.proofs.Common.{◌≡◌, ℕ, suc, ◌+◌, ◌<◌, true, false, List, ◌∷◌, length, drop, Option, Some, None, refl, sym, ap, ◌∙◌, arith, add-one, drop-cons}
use Rattle.std.specs.Prelude.{nat_lt, slice_index_or}
use Rattle.std.specs.Option.{option_map, option_map_or}
use Rattle.layout.specs.Types.{Handle, Key, Principal}
use Rattle.std.proofs.lemmas.List.{drop_all}
use Rattle.version_order.specs.declared.structure.GroupRecord.{GroupRecord}
use Rattle.version_order.specs.Structure.{Structure}
use Rattle.pending_list.specs.declared.signed.Signed.{Signed}
use Rattle.client_tree.specs.Genesis.{first_handle}
use Rattle.client_tree.specs.View.{handle_in, newer, newest, record_of, structure_of}

pub newest_of_none : (g : ℕ) (zs : List (Signed Structure)) → newest g (drop (length zs) zs) ≡ None
unfolding newest
newest_of_none g zs = rw (drop_all (length zs) zs (omega arith)) refl

pub newest_before : (g k : ℕ) (zs : List (Signed Structure)) (z : Signed Structure) (best : Option GroupRecord) → k < length zs → z ≡ slice_index_or zs k z → best ≡ newest g (drop (k + 1) zs) → newer (record_of g z.value.groups) best ≡ newest g (drop k zs)
unfolding newest
newest_before g k zs z best inside at is =
    let front : drop k zs ≡ z ∷ drop (k + 1) zs = rw add-one (drop-cons zs k z inside ∙ ap (λ (x : Signed Structure). x ∷ drop (suc k) zs) (sym at)) in
    rw (front, is) refl

-- ---- the handle of a part

some_mapped : {X Y : Type 0} (f : X → Y) (o : Option X) (first y : Y) → option_map f o ≡ Some y → y ≡ option_map_or f o first
some_mapped f None first y is = absurd cc
some_mapped f (Some x) first y is = let same : Some (f x) ≡ Some y = is in cc

-- that of a group's newest record, or that of a user's structure
pub of_group : (key : Key) (zs : List (Signed Structure)) (p : Principal) (handle : Handle) → nat_lt p 64 ≡ false → option_map (λ r. r.handle) (newest p zs) ≡ Some handle → handle ≡ handle_in key zs p
of_group key zs p handle group is = rw group (some_mapped (λ (r : GroupRecord). r.handle) (newest p zs) (first_handle p key) handle is)

pub of_user : (key : Key) (zs : List (Signed Structure)) (p : Principal) (handle : Handle) → nat_lt p 64 ≡ true → option_map (λ z. z.value.handle) (structure_of p zs) ≡ Some handle → handle ≡ handle_in key zs p
of_user key zs p handle user is = rw user (some_mapped (λ (z : Signed Structure). z.value.handle) (structure_of p zs) (first_handle p key) handle is)
