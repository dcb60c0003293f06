-- Nobody has to believe this file: laws, which are proved.
-- Replies: what is read is spelled so, what fits and is spelled so is read, and how long it is at most.
use Rattle.std.proofs.Common.{◌≤◌, arith, refl}
use Rattle.std.specs.Prelude.{length, None, codes}
use Rattle.std.specs.Int.{w8, w16}
use Rattle.std.specs.List.{All}
use Rattle.layout.specs.Format.{pair, nested, Lawful}
use Rattle.layout.specs.Laws.{laws, lawful_mapped, wide8, wide16, listed_fits, rows_fit}
use Rattle.layout.specs.Sizes.{AtMost, at_most_listed, at_most_headed, at_most_mapped, at_most_pair, at_most_nested, nested_fits}
use Rattle.layout.specs.Ranges.{size}
use Rattle.version_order.specs.Plan.{plan}
use Rattle.version_order.specs.PlanLaws.{lawful_plan, at_most_plan}
use Rattle.version_order.specs.Structure.{Structure, structure}
use Rattle.version_order.specs.StructureLaws.{lawful_structure, at_most_structure}
use Rattle.update_cert.specs.Cert.{cert}
use Rattle.update_cert.specs.CertLaws.{lawful_cert, at_most_cert}
use Rattle.pending_list.specs.declared.reply.TheConstants.{REPLY_SIZE}
use Rattle.pending_list.specs.declared.signed.Signed.{Signed}
use Rattle.pending_list.specs.Signed.{signature, signed}
use Rattle.pending_list.specs.SignedLaws.{lawful_signed, at_most_signed}
use Rattle.pending_list.specs.Reply.{PendingItem, Reply, signed_structure, pending_item, structure_rows, pending_rows, reply}

lawful_signed_structure : Lawful signed_structure
lawful_signed_structure = search (laws, lawful_signed, lawful_structure)

lawful_pending_item : Lawful pending_item
lawful_pending_item =
    lawful_mapped _ _ (pair (signed (nested size cert)) (nested size plan)) (λ i. refl) (λ p fits. refl) (search (laws, lawful_signed, lawful_cert, lawful_plan))

pub lawful_reply : Lawful reply
lawful_reply = search (laws, lawful_signed_structure, lawful_pending_item) depth 9

-- ---- sizes

pub at_most_reply : AtMost reply REPLY_SIZE
at_most_reply =
    at_most_headed (codes "SRL1") _ 1049922
    (at_most_mapped _ _ _ 1049922 (at_most_pair _ _ 432129 617793
    (at_most_listed w8 0 64 structure_rows 6752 wide8 (λ _. at_most_signed (nested size structure) 4244 (at_most_nested w16 0 65535 structure 4242 wide16 at_most_structure)))
    (at_most_listed w8 0 64 pending_rows 9653 wide8 (λ _. at_most_mapped _ _ _ 9653 (at_most_pair _ _ 6760 2893 (at_most_signed (nested size cert) 4252 (at_most_nested w16 0 65535 cert 4250 wide16 at_most_cert)) (at_most_nested w16 0 65535 plan 2891 wide16 at_most_plan))))))

pub size_of : (r : Reply) → reply.Fits r → length (reply.spell r) ≤ REPLY_SIZE
size_of r fits = at_most_reply.holds r fits

-- what fits alone fits a row
pub structure_row_fits : (s : Signed Structure) → structure.Fits s.value → signature.Fits s.signature → signed_structure.Fits s
structure_row_fits s value sign = (nested_fits w16 65535 structure 4242 at_most_structure (omega arith) (omega arith) s.value value, sign)

pub pending_row_fits : (i : PendingItem) → cert.Fits i.cert → signature.Fits i.signature → plan.Fits i.plan → pending_item.Fits i
pending_row_fits i c sign p =
    ((nested_fits w16 65535 cert 4250 at_most_cert (omega arith) (omega arith) i.cert c, sign), nested_fits w16 65535 plan 2891 at_most_plan (omega arith) (omega arith) i.plan p)

-- few enough rows, each of which fits, make a reply
pub reply_fits : (r : Reply) → length r.structures ≤ 64 → length r.pending ≤ 64 → All signed_structure.Fits r.structures → All pending_item.Fits r.pending → reply.Fits r
reply_fits r few_structures few_pending structures pending = (
  listed_fits w8 64 structure_rows r.structures (omega arith) few_structures (rows_fit signed_structure None r.structures structures),
  listed_fits w8 64 pending_rows r.pending (omega arith) few_pending (rows_fit pending_item None r.pending pending),
)
