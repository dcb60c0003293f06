-- What the grammar says of the plans and the certificates of a reply.
use Rattle.std.proofs.Common.{◌≡◌, ◌<◌, List, [], ◌∷◌, Option, Some, None, Ok, sym, ap, ◌∙◌, subst, inl, inr, arith}
use Rattle.std.specs.Int.{w8, w32}
use Rattle.layout.specs.AscendingKeys.{lt_from_less}
use Rattle.layout.specs.Format.{Format, FitRows, after_row, whole, Lawful}
use Rattle.layout.specs.Laws.{in_range, whole_again}
use Rattle.version_order.specs.declared.plan.Entry.{Entry}
use Rattle.version_order.specs.Plan.{Plan, entry, plan}
use Rattle.version_order.specs.declared.structure.GroupRecord.{GroupRecord}
use Rattle.version_order.specs.Structure.{Structure, group_record}
use Rattle.update_cert.specs.Cert.{Cert, cert}
use Rattle.pending_list.specs.declared.signed.Signed.{Signed}
use Rattle.pending_list.specs.Reply.{PendingItem, Reply, pending_item, reply, signed_structure}
use Rattle.agreement.proofs.Members.{In}

-- what fits has a spelling of its own
pub same_spelled : {A : Type 0} (f : Format A) → Lawful f → (x y : A) → f.Fits x → f.Fits y → f.spell x ≡ f.spell y → x ≡ y
same_spelled {A} f law x y fits_x fits_y e =
    let same : Ok x ≡ Ok y = sym (whole_again f law x fits_x) ∙ ap (whole f) e ∙ whole_again f law y fits_y in
    cc

each_fits : {A : Type 0} (f : Format A) (b : Option A) (xs : List A) → FitRows (after_row (λ _. f)) b xs → (x : A) → In x xs → f.Fits x
unfolding FitRows
each_fits f b [] fits x i = absurd i
each_fits {A} f b (y ∷ ys) fits x (inl i) = subst f.Fits (sym i) fits.0
each_fits f b (y ∷ ys) fits x (inr i) = each_fits f (Some y) ys fits.1 x i

pub structure_plan_fits : (r : Reply) → reply.Fits r → (z : Signed Structure) → In z r.structures → plan.Fits z.value.plan
structure_plan_fits r fits z i = (each_fits signed_structure None r.structures fits.0.1.1 z i).0.1.0.1

item_fits : (r : Reply) → reply.Fits r → (i : PendingItem) → In i r.pending → pending_item.Fits i
item_fits r fits i j = each_fits pending_item None r.pending fits.1.1.1 i j

pub pending_plan_fits : (r : Reply) → reply.Fits r → (i : PendingItem) → In i r.pending → plan.Fits i.plan
pending_plan_fits r fits i j = (item_fits r fits i j).1.1

pub cert_fits : (r : Reply) → reply.Fits r → (i : PendingItem) → In i r.pending → cert.Fits i.cert
cert_fits r fits i j = (item_fits r fits i j).0.0.1

pub cert_user : (c : Cert) → cert.Fits c → c.user < 64
cert_user c fits = omega (arith, (in_range w8 0 63 c.user fits.0).1)

-- ---- plans

pub user_below : (p : Plan) → plan.Fits p → p.user < 64
user_below p fits = omega (arith, (in_range w8 0 63 p.user fits.0).1)

later_entries : (b : Entry) (es : List Entry) → FitRows (after_row entry) (Some b) es → (e : Entry) → In e es → b.user < e.user
unfolding FitRows
later_entries b [] fits e i = absurd i
later_entries b (d ∷ es) fits e (inl i) =
    let up = lt_from_less b.user d.user fits.0.0.1 in
    let same = ap (λ (e : Entry). e.user) i in
    omega arith
later_entries b (d ∷ es) fits e (inr i) =
    let up = lt_from_less b.user d.user fits.0.0.1 in
    let more = later_entries d es fits.1 e i in
    omega arith

one_entry : (b : Option Entry) (es : List Entry) → FitRows (after_row entry) b es → (d e : Entry) → In d es → In e es → d.user ≡ e.user → d ≡ e
unfolding FitRows
one_entry b [] fits d e i j same = absurd i
one_entry b (f ∷ es) fits d e (inl i) (inl j) same = i ∙ sym j
one_entry b (f ∷ es) fits d e (inl i) (inr j) same =
    let more = later_entries f es fits.1 e j in
    let here = ap (λ (e : Entry). e.user) i in
    absurd (omega arith)
one_entry b (f ∷ es) fits d e (inr i) (inl j) same =
    let more = later_entries f es fits.1 d i in
    let here = ap (λ (e : Entry). e.user) j in
    absurd (omega arith)
one_entry b (f ∷ es) fits d e (inr i) (inr j) same = one_entry (Some f) es fits.1 d e i j same

-- a plan has one entry of a user
pub one_each : (p : Plan) → plan.Fits p → (d e : Entry) → In d p.entries → In e p.entries → d.user ≡ e.user → d ≡ e
one_each p fits d e i j same = one_entry None p.entries fits.1.1.1.1.1.1 d e i j same

-- ---- records of groups

records_positive : (b : Option GroupRecord) (rs : List GroupRecord) → FitRows (after_row group_record) b rs → (r : GroupRecord) → In r rs → 0 < r.version
unfolding FitRows
records_positive b [] fits r i = absurd i
records_positive b (q ∷ rs) fits r (inl i) =
    let low = (in_range w32 1 4294967295 q.version fits.0.1.0).0 in
    let same = ap (λ (r : GroupRecord). r.version) i in
    omega arith
records_positive b (q ∷ rs) fits r (inr i) = records_positive (Some q) rs fits.1 r i

-- the version in a record is positive
pub record_positive : (r : Reply) → reply.Fits r → (z : Signed Structure) → In z r.structures → (q : GroupRecord) → In q z.value.groups → 0 < q.version
record_positive r fits z i q j = records_positive None z.value.groups (each_fits signed_structure None r.structures fits.0.1.1 z i).0.1.1.1.1.1 q j
