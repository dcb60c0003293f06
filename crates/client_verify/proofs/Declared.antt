-- A reply that breaks none of the rules on itself is one to the declared operation.
use Rattle.std.proofs.Common.{◌≡◌, ◌-◌, Bool, ◌&&◌, true, false, List, [], ◌∷◌, ◌++◌, length, Option, Some, None, Result, Ok, Err, refl, sym, ap, subst, ◌∙◌, inl, inr}
use Rattle.std.specs.Prelude.{◌==◌, bytes_eq, is_ok, IsSomeAnd, if◌then◌else◌, slice_get}
use Rattle.std.specs.List.{list_all}
use Rattle.std.specs.Option.{option_and_then, option_map, option_map_or}
use Rattle.std.specs.Result.{result_ok}
use Rattle.std.proofs.lemmas.Bool.{and_parts, eqb-true}
use Rattle.std.proofs.lemmas.List.Folds.{list_all-append}
use Rattle.std.proofs.lemmas.Slice.Eq.{bytes_eq-Decides}
use Rattle.layout.specs.Format.{whole}
use Rattle.layout.specs.Types.{Bytes, User}
use Rattle.layout.specs.Laws.{whole_again}
use Rattle.layout.specs.declared.error.ReadError.{ReadError}
use Rattle.version_order.specs.Structure.{Structure}
use Rattle.update_cert.specs.Cert.{Cert, cert}
use Rattle.update_cert.specs.CertLaws.{lawful_cert}
use Rattle.pending_list.specs.declared.signed.Signed.{Signed}
use Rattle.pending_list.specs.Signed.{signed}
use Rattle.pending_list.specs.SignedLaws.{lawful_signed}
use Rattle.pending_list.specs.Reply.{PendingItem, Reply, pending_item, reply}
use Rattle.client_journal.specs.Records.{State as Recorded, Idle, Declared, Signed as Ended}
use Rattle.client_releases.specs.Told.{IsPhase, IsReleased, Released, Told, after_cert, after_structure, cert_in, structure_in, told_by, told_of}
use Rattle.client_releases.specs.declared.phase.Phase.{Phase}
use Rattle.client_releases.specs.declared.phase.Phase.TheVariants as phase
use Rattle.reply_rules.specs.declared.rule.Rule.{Rule}
use Rattle.reply_rules.specs.declared.rule.Rule.TheVariants as rule
use Rattle.reply_rules.specs.Lists.{Lists, lists_of}
use Rattle.reply_rules.specs.ListsLaws.{lists_are}
use Rattle.reply_rules.specs.Rules.{is_planned, lists, pending_ascends, pending_once, structures_ascend}
use Rattle.reply_rules.specs.Broken.{least}
use Rattle.reply_check.specs.FirstBroken.{Known, cert_sent, of_reply, own_last, own_pending, reply_breaks, reply_in, super_signature}
use Rattle.client_verify.specs.State.{IsOfDeclared}
use Rattle.reply_check.proofs.Judging.{something_pending}
use Rattle.reply_check.proofs.ListsLaws.{ends, last_one}

-- ---- what the rules say

first_holds : (name : Rule) (holds : Bool) (rest : List (Rule × Bool)) → least ((name, holds) ∷ rest) ≡ None → (holds ≡ true) × (least rest ≡ None)
first_holds name true rest none = (refl, none)
first_holds name false rest none = absurd (cc none)

-- the bytes spell a reply that breaks none of the rules on itself
of_text : (k : Known) (text : Bytes) (r : Reply) → reply_breaks k text ≡ None → reply_in text ≡ Some r → of_reply k r ≡ None
unfolding reply_breaks
of_text k text r none read = go (whole reply text) none read
  where
    go : (o : Result Reply ReadError) → (if is_ok o then option_and_then (of_reply k) (result_ok o) else Some rule.Form) ≡ None → result_ok o ≡ Some r → of_reply k r ≡ None
    go (Ok s) none read = let same : s ≡ r = cc in subst (λ (q : Reply). of_reply k q ≡ None) same none
    go (Err e) none read = absurd (cc read)

rules_hold : (k : Known) (r : Reply) → of_reply k r ≡ None → (lists r ≡ true) × (own_pending k.declared r ≡ true)
unfolding of_reply
rules_hold k r none =
    let three : List (Rule × Bool) = (rule.SuperSignature, super_signature k.pinned r) ∷ [] in
    let two : List (Rule × Bool) = (rule.OwnPending, own_pending k.declared r) ∷ three in
    let one : List (Rule × Bool) = (rule.OwnLast, own_last k.user k.last r) ∷ two in
    let a = first_holds rule.Lists (lists r) one none in
    let b = first_holds rule.OwnLast (own_last k.user k.last r) two a.1 in
    let c = first_holds rule.OwnPending (own_pending k.declared r) three b.1 in
    (a.0, c.0)

-- the last pending certificate is the declared one
last_declared : (declared : Bytes) (r : Reply) (front : List PendingItem) (own : PendingItem) → r.pending ≡ front ++ own ∷ [] → own_pending declared r ≡ true → cert_sent own ≡ declared
unfolding own_pending
last_declared declared r front own is holds =
    let test = λ (items : List PendingItem). option_map_or (λ i. bytes_eq (cert_sent i) declared) (slice_get items (length items - 1)) false ≡ true in
    let there : test (front ++ own ∷ []) = subst test is holds in
    (bytes_eq-Decides (cert_sent own) declared).0 (rw (last_one front own) at there)

-- its plan has its user and number
last_planned : (r : Reply) (front : List PendingItem) (own : PendingItem) → r.pending ≡ front ++ own ∷ [] → lists r ≡ true → (own.plan.user ≡ own.cert.user) × (own.plan.number ≡ own.cert.number)
unfolding lists
last_planned r front own is holds =
    let one = and_parts (structures_ascend r) (pending_ascends r && (pending_once r && list_all is_planned r.pending)) holds in
    let two = and_parts (pending_ascends r) (pending_once r && list_all is_planned r.pending) one.1 in
    let all : list_all is_planned r.pending ≡ true = (and_parts (pending_once r) (list_all is_planned r.pending) two.1).1 in
    let last = and_parts (list_all is_planned front) _ (sym (list_all-append is_planned front (own ∷ [])) ∙ subst (λ (items : List PendingItem). list_all is_planned items ≡ true) is all) in
    let own_is : (is_planned own && true) ≡ true = last.1 in
    let tests = and_parts (own.plan.user == own.cert.user) (own.plan.number == own.cert.number) (and_parts (is_planned own) true own_is).0 in
    (eqb-true _ _ tests.0, eqb-true _ _ tests.1)

-- ---- what the journal tells

-- the certificate that was declared
abbrev IsDeclared : User → Told → Type 0
IsDeclared user t = (c : Signed Cert) × (cert_in user t.text ≡ Some c) × (c.value.number ≡ t.number)

of_cert : (user : User) (last : Option (Signed Structure)) (text : Bytes) (o : Option (Signed Cert)) (t : Told) → cert_in user text ≡ o → option_map (after_cert last text) o ≡ Some t → IsDeclared user t
of_cert user last text None t there told = absurd (cc told)
of_cert user last text (Some c) t there told =
    let same : after_cert last text c ≡ t = cc in
    subst (IsDeclared user) same (c, there, refl)

of_last : (user : User) (o : Option (Signed Structure)) (text : Bytes) (t : Told) → option_and_then (λ z. option_map (after_cert (Some z) text) (cert_in user text)) o ≡ Some t → IsDeclared user t
of_last user None text t told = absurd (cc told)
of_last user (Some z) text t told = of_cert user (Some z) text (cert_in user text) t refl told

not_signed : (text : Bytes) (o : Option (Signed Structure)) (t : Told) → option_map (after_structure text) o ≡ Some t → t.phase ≡ phase.Declared → ⊥
not_signed text None t told is = cc told
not_signed text (Some z) t told is =
    let same : after_structure text z ≡ t = cc in
    let two : phase.Signed ≡ phase.Declared = ap (λ (x : Told). x.phase) same ∙ is in
    cc two

was_declared : (user : User) (recorded : Recorded) (t : Told) → told_by user recorded ≡ Some t → t.phase ≡ phase.Declared → IsDeclared user t
was_declared user Idle t told is =
    let same : Some phase.Idle ≡ Some t.phase = ap (λ (o : Option Told). option_map (λ x. x.phase) o) told in
    let two : Some phase.Idle ≡ Some phase.Declared = same ∙ ap Some is in
    absurd (cc two)
was_declared user (Declared None text) t told is = of_cert user None text (cert_in user text) t refl told
was_declared user (Declared (Some last) text) t told is = of_last user (structure_in user last) text t told
was_declared user (Ended text) t told is = absurd (not_signed text (structure_in user text) t told is)

told_declared : (told now : Phase) → now ≡ phase.Declared → IsPhase told now → told ≡ phase.Declared
told_declared told now is (inl same) = sym same ∙ is
told_declared told now is (inr both) = let two : phase.Idle ≡ phase.Declared = sym both.1 ∙ is in absurd (cc two)

-- ---- both

-- what is read of a certificate as it was sent
sent_is : (user : User) (i : PendingItem) (c : Signed Cert) → pending_item.Fits i → cert_in user (cert_sent i) ≡ Some c → (i.cert ≡ c.value) × (c.value.user ≡ user)
sent_is user i c fits there = go (c'.value.user == user) refl (rw (whole_again (signed cert) (lawful_signed cert lawful_cert) c' (fits.0.0.1, fits.0.1)) at there)
  where
    c' : Signed Cert
    c' = record { value = i.cert; signature = i.signature }

    go : (b : Bool) → (c'.value.user == user) ≡ b → (if c'.value.user == user then Some c' else None) ≡ Some c → (i.cert ≡ c.value) × (c.value.user ≡ user)
    go true is e =
        let same : Some c' ≡ Some c = rw is at e in
        let one : c' ≡ c = cc in
        (ap (λ (z : Signed Cert). z.value) one, sym (ap (λ (z : Signed Cert). z.value.user) one) ∙ eqb-true _ _ is)
    go false is e = let none : None ≡ Some c = rw is at e in absurd (cc none)

pub of_declared : (k : Known) (r : Released) (text : Bytes) (q : Reply) → k.declared ≡ r.text → r.phase ≡ phase.Declared → IsReleased r → reply_breaks k text ≡ None → reply_in text ≡ Some q
    → IsSomeAnd (lists_of q) (λ x. pending_item.Fits x.own) → IsSomeAnd (lists_of q) (λ x. IsOfDeclared r x.own.plan)
of_declared k r text q same is released none read fits =
    let holds = rules_hold k q (of_text k text q none read) in
    let e = ends q (something_pending q k.declared holds.1) in
    let parts = lists_are q e.0 e.1 e.2 in
    let sent : cert_sent e.1 ≡ r.text = last_declared k.declared q e.0 e.1 e.2 holds.1 ∙ same in
    let planned = last_planned q e.0 e.1 e.2 holds.0 in
    let stands = released.stands (λ failed. let two : phase.Failed ≡ phase.Declared = sym failed ∙ is in cc two) in
    let declared = was_declared r.user stands.recorded (told_of stands.told_phase r) stands.told (told_declared stands.told_phase r.phase is stands.is_phase) in
    let own_fits : pending_item.Fits e.1 = subst (λ (o : Option Lists). IsSomeAnd o (λ x. pending_item.Fits x.own)) parts fits in
    let read_there : cert_in r.user (cert_sent e.1) ≡ Some declared.0 = subst (λ (t : Bytes). cert_in r.user t ≡ Some declared.0) (sym sent) declared.1 in
    let own = sent_is r.user e.1 declared.0 own_fits read_there in
    subst (λ (o : Option Lists). IsSomeAnd o (λ x. IsOfDeclared r x.own.plan)) (sym parts)
    (record {
      is_declared = is;
      user = planned.0 ∙ ap (λ (c : Cert). c.user) own.0 ∙ own.1;
      number = planned.1 ∙ ap (λ (c : Cert). c.number) own.0 ∙ declared.2;
    })

-- the own item of these lists fits a reply
pub own_fits : (o : Option Lists) (own : PendingItem) (others : List PendingItem) → IsSomeAnd o (λ x. (x.own ≡ own) × (x.others ≡ others)) → pending_item.Fits own → IsSomeAnd o (λ x. pending_item.Fits x.own)
own_fits None own others none fits = none
own_fits (Some x) own others is fits = subst pending_item.Fits (sym is.0) fits
