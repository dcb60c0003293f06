-- What is kept, text by text, and what is noted of each user's client.
use Rattle.std.proofs.Common.{◌≡◌, ◌≢◌, ℕ, zero, suc, ◌<◌, ◌≤◌, ◌+◌, take, get_or, set, length, true, false, ◌==◌, List, [], ◌∷◌, ◌++◌, map, refl, sym, ap, subst, ◌∙◌}
use Rattle.std.specs.Vec.{vec_items}
use Rattle.std.specs.declared.vec.Vec.{Vec}
use Rattle.std.proofs.lemmas.Bool.{eqb-true, eqb-false}
use Rattle.std.proofs.lemmas.List.{get_or-set_other, get_or-set_same, get_or_read, length-set, map-append, take_all, take_more}
use Rattle.layout.specs.Types.{Bytes, User}
use Rattle.client_tree.specs.Held.{Block, keeping, keeping_all}
use Rattle.client_steps.specs.Steps.{Client, first}
use Rattle.client_runs.specs.declared.world.Act.{Act}
use Rattle.client_runs.specs.declared.world.Answer.{Answer}
use Rattle.client_runs.specs.Runs.{owner}
use Rattle.client_runs.specs.Carried.{ComesOf, script_keys}
use Rattle.client_runs.specs.Clients.{client_at}
use Rattle.honest_runs.specs.declared.wanted.Wanted.{Wanted}
use Rattle.honest_runs.specs.declared.town.Town.{Town}
use Rattle.honest_runs.specs.Town.{AreNoted, ComesTo, IsNoted, IsTold, handed_out, noting, nothing, wanted_at}
use Rattle.honest_runs.proofs.Happening.{kept_after}
use Rattle.honest_runs.proofs.Telling.{is_noted}

-- ---- texts

one_kept : (blocks : List Block) (x : Bytes) → keeping_all blocks (x ∷ []) ≡ keeping blocks x
unfolding keeping_all
one_kept blocks x = refl

-- one text more
pub kept_more : {A : Type 0} (old at new : List Block) (texts : List (Vec ℕ A)) (i : ℕ) (text : Vec ℕ A) (copy : Bytes) → i < length texts → text ≡ get_or texts i text → copy ≡ text.items
    → at ≡ keeping_all old (map vec_items (take i texts)) → new ≡ keeping at copy → new ≡ keeping_all old (map vec_items (take (i + 1) texts))
kept_more {A} old at new texts i text copy within is same so_far kept =
    kept
    ∙ ap (λ (x : Bytes). keeping at x) same
    ∙ ap (λ (b : List Block). keeping b text.items) so_far
    ∙ sym (one_kept (keeping_all old (map vec_items (take i texts))) text.items)
    ∙ sym (kept_after old (map vec_items (take i texts)) (text.items ∷ []))
    ∙ ap (keeping_all old) (sym (map-append vec_items (take i texts) (text ∷ [])))
    ∙ ap (λ (xs : List (Vec ℕ A)). keeping_all old (map vec_items xs)) (sym (take_more texts i text within ∙ ap (λ (x : Vec ℕ A). take i texts ++ x ∷ []) (sym is)))

-- all of them
pub all_kept : {A : Type 0} (old new : List Block) (texts : List (Vec ℕ A)) (i : ℕ) → length texts ≤ i → new ≡ keeping_all old (map vec_items (take i texts)) → new ≡ keeping_all old (map vec_items texts)
all_kept {A} old new texts i past is = is ∙ ap (λ (xs : List (Vec ℕ A)). keeping_all old (map vec_items xs)) (take_all i texts past)

-- ---- notes

-- a table of one value, and one more of it
one_more : {X : Type 0} (xs : List X) (x : X) → ((u : ℕ) → get_or xs u x ≡ x) → (u : ℕ) → get_or (xs ++ x ∷ []) u x ≡ x
one_more [] x same zero = refl
one_more [] x same (suc u) = refl
one_more (y ∷ ys) x same zero = same zero
one_more (y ∷ ys) x same (suc u) = one_more ys x (λ v. same (suc v)) u

pub with_one_more : {X : Type 0} (xs new : List X) (x : X) → new ≡ xs ++ x ∷ [] → ((u : ℕ) → get_or xs u x ≡ x) → (u : ℕ) → get_or new u x ≡ x
with_one_more {X} xs new x is same = subst (λ (ys : List X). (u : ℕ) → get_or ys u x ≡ x) (sym is) (one_more xs x same)

-- nothing is asked for by a client that was never opened
first_noted : (client : Client) (w : Wanted) → client ≡ first → IsNoted client w
first_noted client w is = subst (λ (c : Client). IsNoted c w) (sym is) (tt, tt)

pub none_noted : (clients : List Client) (wanted : List Wanted) → ((u : ℕ) → client_at clients u ≡ first) → length wanted ≡ 64 → AreNoted clients wanted
none_noted clients wanted firsts size = record { size = size; each = λ u. first_noted (client_at clients u) (wanted_at wanted u) (firsts u) }

-- what one user's client asks for is noted anew
pub noted_anew : {A : Type 0} (clients new : List Client) (wanted after : List Wanted) (u : ℕ) (t : Act A) (a : Answer A) → u < 64 → AreNoted clients wanted
    → after ≡ set wanted u (noting (wanted_at wanted u) a)
    → ComesOf (owner script_keys u) (client_at clients u) t a (client_at new u)
    → ((v : ℕ) → v ≢ u → client_at new v ≡ client_at clients v) → AreNoted new after
noted_anew {A} clients new wanted after u t a small old is comes others =
    let w : Wanted = noting (wanted_at wanted u) a in
    let within : u < length wanted = subst (λ (n : ℕ). u < n) (sym old.size) small in
    subst (λ (ws : List Wanted). AreNoted new ws) (sym is)
    (record {
      size = length-set wanted u w ∙ old.size;
      each = λ v. elim (v == u) as (λ b. (v == u) ≡ b → IsNoted (client_at new v) (wanted_at (set wanted u w) v)) [
        | true ↦ (λ eq. subst (λ (n : ℕ). IsNoted (client_at new n) (wanted_at (set wanted u w) n)) (sym (eqb-true v u eq))
            (subst (λ (x : Wanted). IsNoted (client_at new u) x) (sym (get_or-set_same wanted u w nothing within))
            (is_noted u (client_at clients u) t (client_at new u) (wanted_at wanted u) (old.each u) a comes)))
        | false ↦ (λ eq. subst (λ (x : Wanted). IsNoted (client_at new v) x) (sym (get_or-set_other wanted u v w nothing (eqb-false v u eq)))
            (subst (λ (c : Client). IsNoted c (wanted_at wanted v)) (sym (others v (eqb-false v u eq))) (old.each v)))
      ] refl;
    })

-- what is noted of a user's client, where it stands
pub read_noted : (wanted : List Wanted) (place u : ℕ) (w : Wanted) → length wanted ≡ 64 → u < 64 → place ≡ u → w ≡ get_or wanted place w → w ≡ wanted_at wanted u
read_noted wanted place u w size small same is =
    let within : place < length wanted = subst (λ (n : ℕ). place < n) (sym size) (subst (λ (n : ℕ). n < 64) (sym same) small) in
    get_or_read wanted place w within is nothing ∙ ap (λ (n : ℕ). wanted_at wanted n) same

-- what was told to a user's client
pub is_told : {A : Type 0} (u : User) (t : Act A) (a : Answer A) (old new : Town A) → u < 64 → AreNoted old.clients old.wanted.items → ComesTo u t a old new
    → ((v : ℕ) → v ≢ u → client_at new.clients v ≡ client_at old.clients v) → new.wanted.items ≡ set old.wanted.items u (noting (wanted_at old.wanted.items u) a)
    → new.store ≡ keeping_all old.store (handed_out a) → new.server ≡ old.server → new.exchanges ≡ old.exchanges → IsTold u a old new
is_told {A} u t a old new small noted comes others wanted stored server exchanges = record {
  others = others;
  stored = stored;
  noted = noted_anew old.clients new.clients old.wanted.items new.wanted.items u t a small noted wanted comes others;
  server = server;
  exchanges = exchanges;
}
