-- The rows of a directory, from what looks told.
use Rattle.std.proofs.Common.{◌≡◌, ℕ, ◌+◌, ◌<◌, List, [], ◌∷◌, ◌++◌, length, map, take, Option, Some, None, refl, sym, ap, ◌∙◌, get_or}
use Rattle.std.proofs.lemmas.List.{map-append, take_more}
use Rattle.client_verify.specs.State.{State}
use Rattle.directory.specs.Directory.{Entry}
use Rattle.update_cert.specs.World.{Content, File, Directory, Principals, Tree}
use Rattle.commands.specs.Answers.{Details}
use Rattle.commands.specs.Asked.{Tells, content_at, kind_of, refuses, row_of, tells_rows}
use Rattle.commands.specs.declared.row.Kind.{Kind}
use Rattle.commands.specs.Rows.{Row}
use Rattle.commands.specs.declared.answer.Refusal.TheVariants as refusal
use Rattle.file_session.specs.declared.stop.Stop.TheVariants as stop
use Rattle.file_session.specs.Order.{Over, Ready}
use Rattle.file_session.specs.Parts.{LacksRows, directory_in}
use Rattle.file_session.specs.Went.{Answering, At, Looked, point}
use Rattle.file_session.proofs.Runs.{lacks_plan, went_then}

pub no_rows : (tree : Tree) (found : Option (List Entry)) (c : Option Content) → ((es : List Entry) → found ≡ Some es → ⊥) → found ≡ directory_in c → tells_rows tree c ≡ refuses refusal.NoPath
no_rows tree None None not is = refl
no_rows tree None (Some (File bytes)) not is = refl
no_rows tree None (Some (Directory entries)) not is = cc is
no_rows tree None (Some (Principals table)) not is = refl
no_rows tree (Some es) c not is = absurd (not es refl)

some_rows : (tree : Tree) (es : List Entry) (c : Option Content) → Some es ≡ directory_in c → tells_rows tree c ≡ Tells (Details (map (row_of tree) es))
some_rows tree es None is = cc is
some_rows tree es (Some (File bytes)) is = cc is
some_rows tree es (Some (Directory entries)) is = cc is
some_rows tree es (Some (Principals table)) is = cc is

pub rows_are : (tree : Tree) (found : Option (List Entry)) (es : List Entry) (c : Option Content) → found ≡ Some es → found ≡ directory_in c → tells_rows tree c ≡ Tells (Details (map (row_of tree) es))
rows_are tree found es c some is = some_rows tree es c (sym some ∙ is)

pub told_rows : (tree : Tree) (es held : List Entry) (rows : List Row) → held ≡ es → rows ≡ map (row_of tree) held → Tells (Details (map (row_of tree) es)) ≡ Tells (Details rows)
told_rows tree es held rows same is = ap (λ (l : List Entry). Tells (Details (map (row_of tree) l))) (sym same) ∙ ap (λ (r : List Row). Tells (Details r)) (sym is)

-- one more
pub one_row : (tree : Tree) (es : List Entry) (i : ℕ) (e : Entry) (rows new : List Row) (kind : Kind) → i < length es → e ≡ get_or es i e → rows ≡ map (row_of tree) (take i es) → kind ≡ kind_of (content_at tree e.target)
    → new ≡ rows ++ (record { entry = e; kind = kind }) ∷ [] → new ≡ map (row_of tree) (take (i + 1) es)
one_row tree es i e rows new kind inside is before same more =
    more
    ∙ (λ j. before j ++ (record { entry = e; kind = same j }) ∷ [])
    ∙ sym (ap (map (row_of tree)) (take_more es i e inside ∙ ap (λ (x : Entry). take i es ++ x ∷ []) (sym is)) ∙ map-append (row_of tree) (take i es) (e ∷ []))

module _ {T : Type 0} {answers : Answering T} where
  -- memory was refused for one more
  pub lacks_rows : {a : At T} {m : State} {t : T} {P : Tree → Type 0} → Looked answers a (point m t (Ready [])) P → LacksRows answers a (point m t (Over stop.Memory))
  lacks_rows {m = m} {t = t} h = record { seen = h.seen; went = went_then h.went (lacks_plan m t stop.Memory refl) }
