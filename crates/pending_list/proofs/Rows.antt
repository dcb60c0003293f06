-- Rows of pending operations that are written one after the other.
use Rattle.std.proofs.Common.{◌≡◌, ℕ, ◌+◌, ◌<◌, ◌≤◌, List, [], ◌∷◌, ◌++◌, get_or, length, take, refl, sym, ap, ◌∙◌, Option, Some, None, arith, length-append}
use Rattle.std.specs.Prelude.{map, codes}
use Rattle.std.specs.Int.{w8}
use Rattle.std.specs.List.{All}
use Rattle.std.proofs.lemmas.List.{take_more, map-append}
use Rattle.std.proofs.lemmas.List.Elements.{All-nil, All-cons, All-append}
use Rattle.layout.specs.Format.{be, after_row, rows_onto}
use Rattle.version_order.specs.Structure.{Structure}
use Rattle.pending_list.specs.declared.signed.Signed.{Signed}
use Rattle.pending_list.specs.Reply.{PendingItem, signed_structure, pending_item, structure_rows, pending_rows, reply}
use Rattle.pending_list.specs.ReplyLaws.{reply_fits}

-- the last row is written after the others
pub onto_last : (b : Option PendingItem) (old : List ℕ) (xs : List PendingItem) (x : PendingItem) → rows_onto (after_row pending_rows) b old (xs ++ x ∷ []) ≡ pending_item.onto (rows_onto (after_row pending_rows) b old xs) x
unfolding rows_onto
onto_last b old [] x = refl
onto_last b old (y ∷ ys) x = onto_last (Some y) (pending_item.onto old y) ys x

-- what is seen of one more
pub seen_more : {H : Type 0} (item : H → PendingItem) (hs : List H) (i : ℕ) (h : H) → i < length hs → h ≡ get_or hs i h → map item (take (i + 1) hs) ≡ map item (take i hs) ++ item h ∷ []
seen_more {H} item hs i h lt is =
    ap (map item) (take_more hs i h lt) ∙ map-append item (take i hs) (get_or hs i h ∷ []) ∙ ap (λ (x : H). map item (take i hs) ++ item x ∷ []) (sym is)

-- what was written in turn is a reply's text
pub text_onto : (ss : List (Signed Structure)) (others : List PendingItem) (own : PendingItem) (start tag count rows n_text pending all : List ℕ) (n : ℕ) → start ≡ [] → tag ≡ start ++ codes "SRL1" → count ≡ tag ++ be w8 (length ss) → rows ≡ rows_onto (after_row structure_rows) None count ss
    → n ≡ length others + 1 → n_text ≡ rows ++ be w8 n → pending ≡ rows_onto (after_row pending_rows) None n_text others → all ≡ pending_item.onto pending own → all ≡ reply.onto [] (record { structures = ss; pending = others ++ own ∷ [] })
text_onto ss others own start tag count rows n_text pending all n e0 e1 e2 e3 en e4 e5 e6 =
    let head : count ≡ ([] ++ codes "SRL1") ++ be w8 (length ss) = e2 ∙ ap (λ t. t ++ be w8 (length ss)) (e1 ∙ ap (λ t. t ++ codes "SRL1") e0) in
    let many : n ≡ length (others ++ own ∷ []) = omega (arith, length-append others (own ∷ [])) in
    let front : n_text ≡ rows_onto (after_row structure_rows) None (([] ++ codes "SRL1") ++ be w8 (length ss)) ss ++ be w8 (length (others ++ own ∷ []))
    = e4 ∙ ap (λ t. t ++ be w8 n) (e3 ∙ ap (λ t. rows_onto (after_row structure_rows) None t ss) head) ∙ ap (λ k. rows_onto (after_row structure_rows) None (([] ++ codes "SRL1") ++ be w8 (length ss)) ss ++ be w8 k) many in
    e6 ∙ ap (λ t. pending_item.onto t own) e5 ∙ sym (onto_last None n_text others own) ∙ ap (λ t. rows_onto (after_row pending_rows) None t (others ++ own ∷ [])) front

-- few enough operations and the own one fit, where each does
pub answer_fits : (ss : List (Signed Structure)) (others : List PendingItem) (own : PendingItem) → length ss ≤ 64 → length others < 64 → All signed_structure.Fits ss → All pending_item.Fits others → pending_item.Fits own → reply.Fits (record { structures = ss; pending = others ++ own ∷ [] })
answer_fits ss others own few less all each fits =
    reply_fits (record { structures = ss; pending = others ++ own ∷ [] }) few (omega (arith, length-append others (own ∷ []))) all (All-append pending_item.Fits others (own ∷ []) each (All-cons pending_item.Fits own [] fits (All-nil pending_item.Fits)))
