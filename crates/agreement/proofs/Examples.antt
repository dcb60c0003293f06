-- A run of two accepted views, of users 0 and 1: what a run asks can be met, and the later view's line has both
-- operations.
use Rattle.std.proofs.Common.{◌≡◌, ℕ, ◌<◌, true, List, [], ◌∷◌, None, refl, arith, zero, suc}
use Rattle.std.specs.Prelude.{replicate}
use Rattle.std.specs.Int.{w8, w32}
use Rattle.std.specs.List.{Contains}
use Rattle.std.specs.Str.{bytes_eq}
use Rattle.std.proofs.lemmas.Slice.Eq.{bytes_eq-Decides}
use Rattle.std.proofs.lemmas.List.Elements.{All-nil, All-cons}
use Rattle.layout.specs.Format.{FitRows, IsBytes, raw}
use Rattle.principals.specs.Table.{Table}
use Rattle.version_order.specs.declared.vector.Component.{Component}
use Rattle.version_order.specs.Plan.{Plan, plan, entry}
use Rattle.version_order.specs.Structure.{Structure, structure, group_record}
use Rattle.version_order.specs.StructureLaws.{nested_plan}
use Rattle.update_cert.specs.Cert.{Cert, cert, digest_of, change_rows}
use Rattle.pending_list.specs.declared.signed.Signed.{Signed}
use Rattle.pending_list.specs.Groups.{groups_below}
use Rattle.pending_list.specs.Reply.{PendingItem, outranks, reply, pending_item, signed_structure}
use Rattle.pending_list.specs.ReplyLaws.{pending_row_fits, reply_fits, structure_row_fits}
use Rattle.reply_rules.specs.Broken.{broken}
use Rattle.reply_rules.specs.Rules.{entries, every_below, group_records, link, lists, numbers, unknown_user, vector}
use Rattle.agreement.specs.Runs.{Accepted, AreAccepted, View, reply_of}
use Rattle.agreement.specs.Lines.{line}
use Rattle.std.proofs.lemmas.List.{length-replicate}
use Rattle.layout.specs.Laws.{in_range_fits, listed_fits}
use Rattle.layout.specs.HashLaws.{hash_fits}
use Rattle.layout.specs.Ranges.{user, version}
use Rattle.version_order.specs.Vector as Vector
use Rattle.version_order.proofs.Raising.{none_is_vector, vector_raised}

-- ---- two first operations, without changes

abbrev cert_of : ℕ → Cert
cert_of u = record { user = u; number = 1; last = replicate 32 0; changes = [] }

abbrev plan_of : ℕ → List Component → Plan
plan_of u v = record { user = u; number = 1; certificate = digest_of (cert_of u); vector = v; entries = [] }

abbrev item_of : ℕ → List Component → PendingItem
item_of u v = record { cert = cert_of u; signature = replicate 2508 0; plan = plan_of u v }

abbrev structure_over : ℕ → List Component → Structure
structure_over u v = record { plan = plan_of u v; handle = replicate 32 0; groups = [] }

abbrev vector_0 : List Component
vector_0 = record { principal = 0; version = 1 } ∷ []

abbrev vector_1 : List Component
vector_1 = record { principal = 0; version = 1 } ∷ record { principal = 1; version = 1 } ∷ []

-- both users are listed from the beginning
abbrev table : Table
table = record { users = record { user = 0; since = 0; key = []; later = [] } ∷ record { user = 1; since = 0; key = []; later = [] } ∷ []; rows = [] }

-- user 0 sees nothing, and user 1 user 0's structure
abbrev view_0 : View
view_0 = record { lists = record { structures = []; others = []; own = item_of 0 vector_0 }; table = table; signed = structure_over 0 vector_0 }

abbrev shown_0 : Signed Structure
shown_0 = record { value = structure_over 0 vector_0; signature = replicate 2508 0 }

abbrev view_1 : View
view_1 = record {
  lists = record { structures = shown_0 ∷ []; others = []; own = item_of 1 vector_1 };
  table = table;
  signed = structure_over 1 vector_1;
}

-- ---- the rules

same_digest : (u : ℕ) → bytes_eq (digest_of (cert_of u)) (digest_of (cert_of u)) ≡ true
same_digest u = (bytes_eq-Decides (digest_of (cert_of u)) (digest_of (cert_of u))).1 refl

unbroken_0 : broken table view_0.lists ≡ None
unfolding unknown_user numbers every_below vector entries link group_records groups_below
unbroken_0 = rw (same_digest 0) refl

unbroken_1 : broken table view_1.lists ≡ None
unfolding unknown_user numbers every_below vector entries link group_records groups_below outranks
unbroken_1 = rw (same_digest 1) refl

in_lists_0 : lists (reply_of view_0) ≡ true
unfolding lists
in_lists_0 = refl

in_lists_1 : lists (reply_of view_1) ≡ true
unfolding lists
in_lists_1 = refl

-- ---- the texts

zeros_are_bytes : (n : ℕ) → IsBytes (replicate n 0)
zeros_are_bytes zero i = omega arith
zeros_are_bytes (suc n) zero = omega arith
zeros_are_bytes (suc n) (suc i) = zeros_are_bytes n i

zeros_fit : (n : ℕ) → (raw n).Fits (replicate n 0)
zeros_fit n = (length-replicate n 0, zeros_are_bytes n)

user_fits : (u : ℕ) → u < 2 → user.Fits u
user_fits u l = in_range_fits w8 0 63 u (omega arith) (omega arith) (omega arith)

one_fits : version.Fits 1
one_fits = in_range_fits w32 1 4294967295 1 (omega arith) (omega arith) (omega arith)

cert_fits : (u : ℕ) → u < 2 → cert.Fits (cert_of u)
unfolding FitRows
cert_fits u l = (user_fits u l, (one_fits, (zeros_fit 32, listed_fits w8 16 change_rows [] (omega arith) (omega arith) tt)))

plan_fits : (u : ℕ) (v : List Component) → u < 2 → Vector.vector.Fits v → plan.Fits (plan_of u v)
unfolding FitRows
plan_fits u v l fits = (user_fits u l, (one_fits, (hash_fits (cert.spell (cert_of u)), (fits, listed_fits w8 255 entry [] (omega arith) (omega arith) tt))))

vector_0_fits : Vector.vector.Fits vector_0
vector_0_fits = vector_raised 0 [] (omega arith) (omega arith) (none_is_vector [] refl)

vector_1_fits : Vector.vector.Fits vector_1
vector_1_fits = vector_raised 1 vector_0 (omega arith) (omega arith) vector_0_fits

structure_fits : structure.Fits (structure_over 0 vector_0)
unfolding FitRows
structure_fits =
    (nested_plan (plan_of 0 vector_0) (plan_fits 0 vector_0 (omega arith) vector_0_fits), (zeros_fit 32, listed_fits w8 255 group_record [] (omega arith) (omega arith) tt))

item_fits : (u : ℕ) (v : List Component) → u < 2 → Vector.vector.Fits v → pending_item.Fits (item_of u v)
item_fits u v l fits = pending_row_fits (item_of u v) (cert_fits u l) (zeros_fit 2508) (plan_fits u v l fits)

read_0 : reply.Fits (reply_of view_0)
read_0 =
    reply_fits (reply_of view_0) (omega arith) (omega arith) (All-nil signed_structure.Fits)
    (All-cons pending_item.Fits (item_of 0 vector_0) [] (item_fits 0 vector_0 (omega arith) vector_0_fits) (All-nil pending_item.Fits))

read_1 : reply.Fits (reply_of view_1)
read_1 =
    reply_fits (reply_of view_1) (omega arith) (omega arith)
    (All-cons signed_structure.Fits shown_0 [] (structure_row_fits shown_0 structure_fits (zeros_fit 2508)) (All-nil signed_structure.Fits))
    (All-cons pending_item.Fits (item_of 1 vector_1) [] (item_fits 1 vector_1 (omega arith) vector_1_fits) (All-nil pending_item.Fits))

-- ---- the run

accepted_0 : Accepted [] view_0
accepted_0 = record { read = read_0; lists = in_lists_0; own_last = refl; rules = unbroken_0; signed = refl; released = All-nil (Contains []) }

accepted_1 : Accepted (view_0 ∷ []) view_1
accepted_1 = record {
  read = read_1;
  lists = in_lists_1;
  own_last = refl;
  rules = unbroken_1;
  signed = refl;
  released = All-cons (Contains (structure_over 0 vector_0 ∷ [])) (structure_over 0 vector_0) [] (0, omega arith, refl) (All-nil (Contains (structure_over 0 vector_0 ∷ [])));
}

is_run : AreAccepted (view_1 ∷ view_0 ∷ [])
is_run = (accepted_1, (accepted_0, tt))

-- the line of user 1's view has both operations

both : line (view_1 ∷ view_0 ∷ []) view_1 ≡ cert_of 0 ∷ cert_of 1 ∷ []
unfolding outranks
both = refl
