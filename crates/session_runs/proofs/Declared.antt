-- The own certificate of the view in hand is the one that the client declared last, and while the session's operation is
-- under way, that is the one that the session began.
use Rattle.std.proofs.Common.{◌≡◌, ℕ, ◌-◌, Bool, true, false, List, [], ◌∷◌, ◌++◌, length, Option, Some, None, Ok, Err, IfSome, refl, sym, ap, ◌∙◌, subst, inl, option_map}
use Rattle.std.specs.Prelude.{◌==◌, ◌&&◌, bytes_eq, slice_get}
use Rattle.std.specs.List.{list_all}
use Rattle.std.specs.Option.{option_map_or}
use Rattle.std.proofs.lemmas.Bool.{and_parts, eqb-true}
use Rattle.std.proofs.lemmas.List.Folds.{list_all-append}
use Rattle.std.proofs.lemmas.Slice.Eq.{bytes_eq-Decides}
use Rattle.layout.specs.Format.{Answer}
use Rattle.layout.specs.Types.{Bytes, Digest}
use Rattle.lms_sign.specs.Signature.{signature_of}
use Rattle.lms_sign.proofs.Validity.{length-signature}
use Rattle.client_journal.specs.Records.{unsigned}
use Rattle.update_cert.specs.Cert.{Cert, cert}
use Rattle.update_cert.specs.CertLaws.{lawful_cert}
use Rattle.update_cert.specs.Change.{Change}
use Rattle.pending_list.specs.Reply.{PendingItem, Reply}
use Rattle.reply_rules.specs.declared.rule.Rule.{Rule}
use Rattle.reply_rules.specs.declared.rule.Rule.TheVariants as rule
use Rattle.reply_rules.specs.Rules.{is_planned, lists, pending_ascends, pending_once, structures_ascend}
use Rattle.reply_check.specs.FirstBroken.{Known, cert_sent, of_reply, own_last, own_pending, super_signature}
use Rattle.reply_check.proofs.ListsLaws.{last_one}
use Rattle.agreement.specs.Runs.{View}
use Rattle.agreement.proofs.Formed.{cert_fits}
use Rattle.agreement.proofs.Members.{in-right}
use Rattle.agreement.proofs.Tests.{first_holds}
use Rattle.client_releases.proofs.Again.{unsigned_of}
use Rattle.client_releases.specs.Told.{Released, secret_at}
use Rattle.client_verify.specs.State.{IsOfDeclared, Ready, State, known, newest_key, next_cert, released}
use Rattle.client_steps.specs.Steps.{Client, Closed, HasBegun, HasResigned, Open, Owner}
use Rattle.client_runs.specs.Released.{in_hand, view_over}
use Rattle.client_runs.specs.Runs.{Event}
use Rattle.client_runs.proofs.Replies.{IsGoodBy, of_lists}
use Rattle.fork_consistency.proofs.Holds.{IsOpenClient}
use Rattle.session_runs.specs.Told.{IsOwnOperation, OfChanges, OfNumber, Operation}

-- ---- the view in hand

-- the own certificate of the view is the client's text, and has its number
pub record IsOwnText (s : State) (x : View) : Type 0 where
  pub sent : cert_sent x.lists.own ≡ s.text
  pub fits : cert.Fits x.lists.own.cert
  pub number : x.lists.own.cert.number ≡ s.number

abbrev pub IsDeclaredIn : Client → View → Type 0
IsDeclaredIn (Closed p) x = Unit {0}
IsDeclaredIn (Open s) x = IsOwnText s x

rules_hold : (k : Known) (r : Reply) → of_reply k r ≡ None → (lists r ≡ true) × (own_pending k.declared r ≡ true)
unfolding of_reply
rules_hold k r none =
    let three : List (Rule × Bool) = (rule.SuperSignature, super_signature k.pinned r) ∷ [] in
    let two : List (Rule × Bool) = (rule.OwnPending, own_pending k.declared r) ∷ three in
    let one : List (Rule × Bool) = (rule.OwnLast, own_last k.user k.last r) ∷ two in
    let a = first_holds rule.Lists (lists r) one none in
    let b = first_holds rule.OwnLast (own_last k.user k.last r) two a.1 in
    (a.0, (first_holds rule.OwnPending (own_pending k.declared r) three b.1).0)

last_declared : (declared : Bytes) (r : Reply) (front : List PendingItem) (own : PendingItem) → r.pending ≡ front ++ own ∷ [] → own_pending declared r ≡ true → cert_sent own ≡ declared
unfolding own_pending
last_declared declared r front own is holds =
    let test = λ (items : List PendingItem). option_map_or (λ i. bytes_eq (cert_sent i) declared) (slice_get items (length items - 1)) false ≡ true in
    let there : test (front ++ own ∷ []) = subst test is holds in
    (bytes_eq-Decides (cert_sent own) declared).0 (rw (last_one front own) at there)

-- its plan has its number
last_planned : (r : Reply) (front : List PendingItem) (own : PendingItem) → r.pending ≡ front ++ own ∷ [] → lists r ≡ true → own.plan.number ≡ own.cert.number
unfolding lists
last_planned r front own is holds =
    let one = and_parts (structures_ascend r) (pending_ascends r && (pending_once r && list_all is_planned r.pending)) holds in
    let two = and_parts (pending_ascends r) (pending_once r && list_all is_planned r.pending) one.1 in
    let all : list_all is_planned r.pending ≡ true = (and_parts (pending_once r) (list_all is_planned r.pending) two.1).1 in
    let last = and_parts (list_all is_planned front) _ (sym (list_all-append is_planned front (own ∷ [])) ∙ subst (λ (items : List PendingItem). list_all is_planned items ≡ true) is all) in
    let own_is : (is_planned own && true) ≡ true = last.1 in
    eqb-true _ _ (and_parts (own.plan.user == own.cert.user) (own.plan.number == own.cert.number) (and_parts (is_planned own) true own_is).0).1

module _ (o : Owner) (run : List Event) (view : Option View) where
  own_text : (s : State) (y : Ready) → IsGoodBy run (known s) y.lists y.table → IsOfDeclared (released s) y.lists.own.plan → IsOwnText s (view_over s y)
  own_text s y g of = record {
    sent = last_declared s.text (of_lists y.lists) y.lists.others y.lists.own refl (rules_hold (known s) (of_lists y.lists) g.judged.unbroken).1;
    fits = cert_fits (of_lists y.lists) g.judged.fits y.lists.own (in-right y.lists.own y.lists.others (y.lists.own ∷ []) (inl refl));
    number = sym (last_planned (of_lists y.lists) y.lists.others y.lists.own refl (rules_hold (known s) (of_lists y.lists) g.judged.unbroken).0) ∙ of.number;
  }

  pub hand_declared : (c : Client) → IsOpenClient o run view c → IfSome (in_hand c) (IsDeclaredIn c)
  hand_declared (Closed p) is = tt
  hand_declared (Open s) is = go s.accepted is.replies.accepted is.always.1.of_accepted
    where
      go : (a : Option Ready) → IfSome a (λ y. IsGoodBy run (known s) y.lists y.table) → IfSome a (λ y. IsOfDeclared (released s) y.lists.own.plan) → IfSome (option_map (view_over s) a) (IsOwnText s)
      go None g of = tt
      go (Some y) g of = own_text s y g of

-- ---- the operation that was begun

-- the text is a certificate of these changes, with a signature
pub record IsCertOf (changes : List (Change Digest)) (text : Bytes) : Type 0 where
  pub value : Cert
  pub signature : Bytes
  pub long : length signature ≡ 2508
  pub fits : cert.Fits value
  pub changes_are : value.changes ≡ changes
  pub spelled : text ≡ cert.spell value ++ signature

-- this operation is the one that the client declared last
abbrev pub HasDeclared : Operation → State → Type 0
HasDeclared (OfNumber number) s = s.number ≡ number
HasDeclared (OfChanges changes) s = IsCertOf changes s.text

pub still_has : (begun : Operation) (s new : State) → released new ≡ released s → HasDeclared begun s → HasDeclared begun new
still_has (OfNumber number) s new same has = ap (λ (r : Released). r.number) same ∙ has
still_has (OfChanges changes) s new same has = subst (λ (r : Released). IsCertOf changes r.text) (sym same) has

pub begins : (s new : State) (changes : List (Change Digest)) (laid : List Bytes) (text : Bytes) → HasBegun s changes laid (Ok text) new → HasDeclared (OfChanges changes) new
begins s new changes laid text b =
    let secret = secret_at (newest_key s) (released s) in
    let spelled = cert.spell (next_cert s changes) in
    record {
      value = next_cert s changes;
      signature = signature_of secret b.declared.0 spelled;
      long = length-signature secret spelled b.declared.0;
      fits = b.fits;
      changes_are = refl;
      spelled = ap (λ (n : State). n.text) b.declared.2;
    }

-- the certificate that is signed again is the same one
pub resigns : (begun : Operation) (s new : State) (k : ℕ) (text : Bytes) → HasResigned s k (Ok text) new → HasDeclared begun s → HasDeclared begun new
resigns (OfNumber number) s new k text b has = ap (λ (n : State). n.number) b.resigned.2 ∙ has
resigns (OfChanges changes) s new k text b has =
    let secret = secret_at k (released s) in
    let signature = signature_of secret b.resigned.0 (unsigned s.text) in
    let same : unsigned s.text ≡ cert.spell has.value = ap unsigned has.spelled ∙ unsigned_of (cert.spell has.value) has.signature has.long in
    record {
      value = has.value;
      signature = signature;
      long = length-signature secret (unsigned s.text) b.resigned.0;
      fits = has.fits;
      changes_are = has.changes_are;
      spelled = ap (λ (n : State). n.text) b.resigned.2 ∙ ap (λ (u : Bytes). u ++ signature) same;
    }

abbrev cert_or : Cert → Answer Cert → Cert
cert_or other (Ok x) = x.0
cert_or other (Err e) = other

same_cert : (c d : Cert) (a b : Bytes) → cert.Fits c → cert.Fits d → cert.spell c ++ a ≡ cert.spell d ++ b → c ≡ d
same_cert c d a b fits_c fits_d same =
    ap (cert_or c) (sym (lawful_cert.again c a fits_c) ∙ ap cert.read same ∙ lawful_cert.again d b fits_d)

-- the own operation of the view in hand is the one that was begun
pub of_begun : (begun : Operation) (s : State) (x : View) → HasDeclared begun s → IsOwnText s x → IsOwnOperation begun x
of_begun (OfNumber number) s x has own = own.number ∙ has
of_begun (OfChanges changes) s x has own =
    ap (λ (c : Cert). c.changes) (same_cert x.lists.own.cert has.value x.lists.own.signature has.signature own.fits has.fits (own.sent ∙ has.spelled)) ∙ has.changes_are
