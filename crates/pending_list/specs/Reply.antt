-- Replies: `SRL1`, the latest signed structure of each user, and the pending operations in their order.
-- The bytes stand in docs/FORMATS.md.
use Rattle.std.specs.Prelude.{ℕ, ◌==◌, Bool, ◌&&◌, ◌||◌, List, [], ◌∷◌, Option, Some, None, nat_lt, codes, replicate, if◌then◌else◌}
use Rattle.std.specs.Int.{w8}
use Rattle.std.specs.Option.{option_map_or}
use Rattle.layout.specs.Types.{Digest, Signature, User}
use Rattle.layout.specs.Format.{Format, RowAfter, uint_in, pair, headed, mapped, listed, nested}
use Rattle.layout.specs.Ranges.{size}
use Rattle.version_order.specs.declared.vector.Component.{Component}
use Rattle.version_order.specs.Vector.{depth}
use Rattle.version_order.specs.Plan.{Plan, plan}
use Rattle.version_order.specs.Structure.{Structure, structure, digest_of_structure}
use Rattle.update_cert.specs.Cert.{Cert, cert}
use Rattle.pending_list.specs.declared.signed.Signed.{Signed}
use Rattle.pending_list.specs.Signed.{signed}

-- an operation that is pending, without where it lies in memory
pub record PendingItem : Type 0 where
  pub cert : Cert
  pub signature : Signature
  pub plan : Plan

-- the latest structure of each user, and the pending operations, in order
pub record Reply : Type 0 where
  pub structures : List (Signed Structure)
  pub pending : List PendingItem

-- a structure in its size, and its signature
abbrev pub signed_structure : Format (Signed Structure)
signed_structure = signed (nested size structure)

-- a certificate in its size, its signature, and the plan in its size
abbrev pub pending_item : Format PendingItem
pending_item =
    mapped (λ (cert, plan). record { cert = cert.value; signature = cert.signature; plan = plan })
    (λ i. (record { value = i.cert; signature = i.signature }, i.plan))
    (pair (signed (nested size cert)) (nested size plan))

abbrev pub structure_rows : RowAfter (Signed Structure)
structure_rows before = signed_structure

abbrev pub pending_rows : RowAfter PendingItem
pending_rows before = pending_item

abbrev pub reply : Format Reply
reply =
    headed (codes "SRL1")
    (mapped (λ (structures, pending). record { structures = structures; pending = pending })
    (λ r. (r.structures, r.pending))
    (pair (listed (uint_in w8 0 64) structure_rows) (listed (uint_in w8 0 64) pending_rows)))

-- ---- what a certificate names

-- the digest of a user's last structure, 32 zeros where it has none
abbrev pub digest_of_last : Option (Signed Structure) → Digest
digest_of_last last = option_map_or (λ s. digest_of_structure s.value) last (replicate 32 0)

-- ---- the top

abbrev pub depth_of : Signed Structure → ℕ
depth_of s = depth s.value.plan.vector

abbrev pub user_of : Signed Structure → User
user_of s = s.value.plan.user

-- the first counts more operations than the second, or as many for a lesser user
unfoldable pub outranks : Signed Structure → Signed Structure → Bool
outranks s t = nat_lt (depth_of t) (depth_of s) || ((depth_of s == depth_of t) && nat_lt (user_of s) (user_of t))

-- the first, but where the second outranks it
abbrev pub higher : Signed Structure → Option (Signed Structure) → Option (Signed Structure)
higher s None = Some s
higher s (Some t) = if outranks t s then Some t else Some s

-- the structure of greatest depth, of equal ones the least user's
abbrev pub top : List (Signed Structure) → Option (Signed Structure)
top [] = None
top (s ∷ ss) = higher s (top ss)

-- the plan of top, where there is a structure
abbrev pub top_plan : List (Signed Structure) → Option Plan
top_plan ss = option_map_or (λ s. Some s.value.plan) (top ss) None

-- the vector of top, empty where there is no structure
abbrev pub top_vector : List (Signed Structure) → List Component
top_vector ss = option_map_or (λ p. p.vector) (top_plan ss) []

-- how many operations top counts
abbrev pub depth_of_top : List (Signed Structure) → ℕ
depth_of_top ss = depth (top_vector ss)

-- the plan counts more operations than this many
abbrev pub is_deeper : Plan → ℕ → Bool
is_deeper p count = nat_lt count (depth p.vector)

-- the plan is above: it counts more than top
abbrev pub is_above : List (Signed Structure) → Plan → Bool
is_above ss p = is_deeper p (depth_of_top ss)
