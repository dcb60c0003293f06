-- Which changes fit, and where a change of the table is made.
use Rattle.std.proofs.Common.{◌≡◌, ℕ, Bool, true, false, Option, Some, None, refl, ap, arith}
use Rattle.std.specs.Prelude.{◌&&◌, IsSomeAnd, if◌then◌else◌}
use Rattle.std.proofs.lemmas.Bool.Decides.{nat_tests}
use Rattle.layout.specs.Types.{Digest}
use Rattle.principals.specs.Table.{Table}
use Rattle.update_cert.specs.Change.{Action, Make, Put, Remove, Link, Unlink, AddUser, AddMember, DropMember, SetKey, Change, change}
use Rattle.update_cert.specs.World.{Content, Principals, Actor, permitted, has_effect, action_fits, is_table, changes_table}
use Rattle.update_cert.specs.Reading.{Reading, read_action, read_change}

-- whether a change fits doesn't depend on what its digest stands for
pub fits_read : (reads : Reading) (actor : Actor) (p i : ℕ) (a : Action Digest) (content : Option Content) → action_fits actor p i (read_action reads a) content ≡ action_fits actor p i a content
fits_read reads actor p i (Make new) content = refl
fits_read reads actor p i (Put new) content = refl
fits_read reads actor p i Remove content = refl
fits_read reads actor p i (Link entry) content = refl
fits_read reads actor p i (Unlink name) content = refl
fits_read reads actor p i (AddUser u key) content = refl
fits_read reads actor p i (AddMember g u) content = refl
fits_read reads actor p i (DropMember g u) content = refl
fits_read reads actor p i (SetKey u key) content = refl

pub effect_read : (reads : Reading) (actor : Actor) (c : Change Digest) (content : Option Content) → has_effect actor (read_change reads c) content ≡ has_effect actor c content
unfolding has_effect
effect_read reads actor c content = ap (λ (t : Bool). permitted actor c && t) (fits_read reads actor c.principal c.i_number c.action content)

-- nor whether it is one of the table
pub kind_read : (reads : Reading) (a : Action Digest) → changes_table (read_action reads a) ≡ changes_table a
kind_read reads (Make new) = refl
kind_read reads (Put new) = refl
kind_read reads Remove = refl
kind_read reads (Link entry) = refl
kind_read reads (Unlink name) = refl
kind_read reads (AddUser u key) = refl
kind_read reads (AddMember g u) = refl
kind_read reads (DropMember g u) = refl
kind_read reads (SetKey u key) = refl

-- no change but those of the table fits where the table of principals stands
pub other_void : {C : Type 0} (actor : Actor) (p i : ℕ) (a : Action C) (t : Table) → changes_table a ≡ false → action_fits actor p i a (Some (Principals t)) ≡ false
other_void actor p i (Make new) t other = refl
other_void actor p i (Put new) t other = refl
other_void actor p i Remove t other = refl
other_void actor p i (Link entry) t other = refl
other_void actor p i (Unlink name) t other = refl
other_void actor p i (AddUser u key) t other = absurd cc
other_void actor p i (AddMember g u) t other = absurd cc
other_void actor p i (DropMember g u) t other = absurd cc
other_void actor p i (SetKey u key) t other = absurd cc

pub table_place : (p i : ℕ) → is_table p i ≡ true → (p ≡ 0) × (i ≡ 1)
table_place p i is = grind (arith, nat_tests)

if_some : {X : Type 0} (P : X → Type 0) (t : Bool) (o : Option X) → IsSomeAnd (if t then o else None) P → t ≡ true
if_some P true o some = refl
if_some P false o some = absurd some

place_fits : (p i : ℕ) (a : Action Digest) → change.Fits (record { principal = p; i_number = i; action = a }) → changes_table a ≡ true → is_table p i ≡ true
place_fits p i (Make new) fits is = absurd cc
place_fits p i (Put new) fits is = absurd cc
place_fits p i Remove fits is = absurd cc
place_fits p i (Link entry) fits is = absurd cc
place_fits p i (Unlink name) fits is = absurd cc
place_fits p i (AddUser u k) fits is = if_some _ (is_table p i) (Some (u, k)) fits.1
place_fits p i (AddMember g u) fits is = if_some _ (is_table p i) (Some (g, u)) fits.1
place_fits p i (DropMember g u) fits is = if_some _ (is_table p i) (Some (g, u)) fits.1
place_fits p i (SetKey u k) fits is = if_some _ (is_table p i) (Some (u, k)) fits.1

-- a change of the table is made at its place
pub at_table : (c : Change Digest) → change.Fits c → changes_table c.action ≡ true → is_table c.principal c.i_number ≡ true
at_table c fits is = place_fits c.principal c.i_number c.action fits is
