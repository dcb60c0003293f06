-- Rows of a reply that are joined from the texts that spell them.
use Rattle.std.proofs.Common.{◌≡◌, ℕ, ◌+◌, ◌<◌, ◌≤◌, List, [], ◌∷◌, ◌++◌, Option, Some, None, get_or, take, refl, ap, sym, ◌∙◌, length, append_assoc, length-append, arith}
use Rattle.std.specs.Prelude.{codes}
use Rattle.std.specs.Int.{w8, w16}
use Rattle.std.proofs.lemmas.List.{take_more}
use Rattle.layout.specs.Format.{Format, be, after_row, rows_onto}
use Rattle.layout.specs.Laws.{in_range, is_text}
use Rattle.layout.specs.Types.{Bytes}
use Rattle.version_order.specs.Plan.{plan}
use Rattle.version_order.specs.Structure.{Structure, structure}
use Rattle.update_cert.specs.Cert.{cert}
use Rattle.pending_list.specs.declared.signed.Signed.{Signed}
use Rattle.pending_list.specs.Signed.{signed}
use Rattle.pending_list.specs.Reply.{PendingItem, Reply, signed_structure, pending_item, structure_rows, pending_rows, reply}
use Rattle.pending_list.specs.ReplyLaws.{lawful_reply}
use Rattle.pending_list.proofs.Rows.{text_onto}
use Rattle.consistency_server.specs.Answers.{cert_of}

-- ---- sizes

-- of a text and its signature together
pub signed_size : (text unsigned signature : Bytes) → text ≡ unsigned ++ signature → length signature ≡ 2508 → length text ≡ length unsigned + 2508
signed_size text unsigned signature is size = omega (arith, ap length is, length-append unsigned signature, size)

-- a structure in a row, with its signature
pub structure_size : (s : Signed Structure) (text : Bytes) → signed_structure.Fits s → text ≡ (signed structure).spell s → (length text ≡ length (structure.spell s.value) + 2508) × (length (structure.spell s.value) ≤ 65535)
structure_size s text fits is =
    (signed_size text (structure.spell s.value) s.signature is fits.1.0, (in_range w16 0 65535 (length (structure.spell s.value)) fits.0.0).1)

-- a certificate in a row, with its signature
pub cert_size : (i : PendingItem) (text : Bytes) → pending_item.Fits i → text ≡ (signed cert).spell (cert_of i) → (length text ≡ length (cert.spell i.cert) + 2508) × (length (cert.spell i.cert) ≤ 65535)
cert_size i text fits is =
    (signed_size text (cert.spell i.cert) i.signature is fits.0.1.0, (in_range w16 0 65535 (length (cert.spell i.cert)) fits.0.0.0).1)

-- a plan in a row
pub plan_size : (i : PendingItem) → pending_item.Fits i → length (plan.spell i.plan) ≤ 65535
plan_size i fits = (in_range w16 0 65535 (length (plan.spell i.plan)) fits.1.0).1

-- ---- rows

-- a size, and then a text with its signature
pub sized_then : (old text unsigned signature : Bytes) (n : ℕ) → text ≡ unsigned ++ signature → n ≡ length unsigned → (old ++ be w16 n) ++ text ≡ ((old ++ be w16 (length unsigned)) ++ unsigned) ++ signature
sized_then old text unsigned signature n is size =
    ap (λ t. (old ++ be w16 n) ++ t) is ∙ ap (λ k. (old ++ be w16 k) ++ (unsigned ++ signature)) size
    ∙ sym (append_assoc (old ++ be w16 (length unsigned)) unsigned signature)

pub structure_row : (old text : Bytes) (s : Signed Structure) (n : ℕ) → text ≡ (signed structure).spell s → n ≡ length (structure.spell s.value) → (old ++ be w16 n) ++ text ≡ signed_structure.onto old s
structure_row old text s n is size = sized_then old text (structure.spell s.value) s.signature n is size

pub item_row : (old cert_text plan_text : Bytes) (i : PendingItem) (n m : ℕ) → cert_text ≡ (signed cert).spell (cert_of i) → n ≡ length (cert.spell i.cert) → plan_text ≡ plan.spell i.plan → m ≡ length plan_text
    → (((old ++ be w16 n) ++ cert_text) ++ be w16 m) ++ plan_text ≡ pending_item.onto old i
item_row old cert_text plan_text i n m is size plan_is plan_size =
    let front : Bytes = ((old ++ be w16 (length (cert.spell i.cert))) ++ cert.spell i.cert) ++ i.signature in
    ap (λ t. (t ++ be w16 m) ++ plan_text) (sized_then old cert_text (cert.spell i.cert) i.signature n is size)
    ∙ ap (λ k. (front ++ be w16 k) ++ plan_text) (plan_size ∙ ap length plan_is)
    ∙ ap (λ t. (front ++ be w16 (length (plan.spell i.plan))) ++ t) plan_is

-- ---- one row more

rows_last : {A : Type 0} (f : Format A) (b : Option A) (old : Bytes) (xs : List A) (x : A) → rows_onto (after_row (λ _. f)) b old (xs ++ x ∷ []) ≡ f.onto (rows_onto (after_row (λ _. f)) b old xs) x
unfolding rows_onto
rows_last f b old [] x = refl
rows_last f b old (y ∷ ys) x = rows_last f (Some y) (f.onto old y) ys x

pub row_more : {A : Type 0} (f : Format A) (old : Bytes) (xs : List A) (i : ℕ) (x : A) → i < length xs → x ≡ get_or xs i x → f.onto (rows_onto (after_row (λ _. f)) None old (take i xs)) x ≡ rows_onto (after_row (λ _. f)) None old (take (i + 1) xs)
row_more {A} f old xs i x lt is =
    sym (rows_last f None old (take i xs) x)
    ∙ ap (λ (y : A). rows_onto (after_row (λ _. f)) None old (take i xs ++ y ∷ [])) is
    ∙ ap (rows_onto (after_row (λ _. f)) None old) (sym (take_more xs i x lt))

-- ---- a whole reply

abbrev pub lists : List (Signed Structure) → List PendingItem → PendingItem → Reply
lists ss others own = record { structures = ss; pending = others ++ own ∷ [] }

-- what was written in turn spells it
pub reply_written : (ss : List (Signed Structure)) (others : List PendingItem) (own : PendingItem) (start tag count rows n_text pending all text : Bytes) (n : ℕ) → start ≡ [] → tag ≡ start ++ codes "SRL1" → count ≡ tag ++ be w8 (length ss) → rows ≡ rows_onto (after_row structure_rows) None count ss
    → n ≡ length others + 1 → n_text ≡ rows ++ be w8 n → pending ≡ rows_onto (after_row pending_rows) None n_text others → all ≡ pending_item.onto pending own → text ≡ all → text ≡ reply.spell (lists ss others own)
reply_written ss others own start tag count rows n_text pending all text n e0 e1 e2 e3 en e4 e5 e6 e7 =
    is_text reply lawful_reply (lists ss others own) text (e7 ∙ text_onto ss others own start tag count rows n_text pending all n e0 e1 e2 e3 en e4 e5 e6)
