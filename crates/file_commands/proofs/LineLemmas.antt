-- A whole line, and the answers of clap that it rests on.
use Rattle.std.proofs.Common.{codes, subst, ◌≡◌, ◌∙◌, ℕ, Bool, true, List, [], ◌∷◌, Option, Some, None, Result, Ok, Err, refl, sym, ap}
use Rattle.std.specs.Prelude.{option_map, unwrap_or}
use Rattle.clap.specs.Words.{App, HasMatchesOf, Kinds, Row, Text, fault_of, first_of, found_of, is_simple, is_simple_and_free, matches_of, rows_of, subcommand_name_of, subcommand_of, subcommand_rows_of}
use Rattle.clap.specs.declared.parser.ArgMatches.{ArgMatches}
use Rattle.clap.proofs.OnLiterals.{clap_on_literals}
use Rattle.clap.proofs.WalkLemmas.{both}
use Rattle.file_commands.specs.Words.{line_app, sundr_app}
use Rattle.file_commands.specs.Lines.{◌>>=◌, Init, Order, init_in, is_set, judged, line_in, super_key_for, user_in, order_met, text_in, IsFaultOf, IsWhy, IsErrorOf}
use Rattle.file_commands.specs.declared.line.LineError.{LineError}
use Rattle.file_commands.specs.declared.line.LineError.TheVariants as error
use Rattle.file_commands.specs.declared.reading.Unread.{Unread}
use Rattle.file_commands.specs.declared.reading.Unread.TheVariants as unread

-- ---- the subcommand

fused : {X A B : Type 0} (f : X → A) (g : X → B) (o : Option X) → option_map (λ (p : A × B). p.0) (option_map (λ b. (f b, g b)) o) ≡ option_map f o
fused f g None = refl
fused f g (Some x) = refl

name_first : (m : ArgMatches) → option_map (λ p. p.0) (subcommand_rows_of m) ≡ subcommand_name_of m
name_first m = fused _ _ _

pair_of : (o : Option (Text × List Row)) (n : Text) (r : List Row) → Some n ≡ option_map (λ p. p.0) o → Some r ≡ option_map (λ p. p.1) o
    → o ≡ Some (n, r)
pair_of None n r a b = cc
pair_of (Some p) n r a b =
    let first : n ≡ p.0 = ap (λ o. unwrap_or o n) a in
    let second : r ≡ p.1 = ap (λ o. unwrap_or o r) b in
    λ i. Some (sym first i, sym second i)

pub subcommand_met : (m : ArgMatches) (n : Text) (r : List Row) → Some n ≡ subcommand_name_of m
    → Some r ≡ option_map (λ p. p.1) (subcommand_rows_of m) → subcommand_rows_of m ≡ Some (n, r)
subcommand_met m n r a b = pair_of (subcommand_rows_of m) n r (a ∙ sym (name_first m)) b

pub line_read : (rows : List Row) (sub : Option (Text × List Row)) (d s : Text) (u : ℕ) (m : Bool) (o : Option Order)
    → text_in (codes "dir") rows ≡ Ok d → text_in (codes "server") rows ≡ Ok s → user_in (codes "user") rows ≡ Ok u
    → is_set (codes "moved") rows ≡ m → order_met sub ≡ Ok o
    → Ok (record { dir = d; server = s; user = u; moved = m; order = o }) ≡ line_in rows sub
line_read rows sub d s u m o a b c f e = rw (a, b, c, f, e) refl

-- the file of user 0's public key is looked for last
pub folder_read : (rows : List Row) (d : Text) (u : ℕ) (r : Result (Option Text) Unread)
    → text_in (codes "DIR") rows ≡ Ok d → user_in (codes "USER") rows ≡ Ok u
    → r ≡ super_key_for u (first_of (codes "SUPER_PUB") rows) → (r >>= λ k. Ok (Init d u k)) ≡ init_in rows
folder_read rows d u r a b c = rw (a, b, ← c) refl

-- ---- both outcomes

pub sundr_simple : is_simple_and_free sundr_app ≡ true
unfolding clap_on_literals
sundr_simple = refl

pub line_simple : is_simple_and_free line_app ≡ true
unfolding clap_on_literals
line_simple = refl

-- where clap finds no fault, what is read of its matches is what the words say
pub read_ok : {X : Type 0} (app a : App) (words : List Text) (m : ArgMatches) (f : List Row → Option (Text × List Row) → Result X Unread) (r : Result X Unread)
    → a ≡ app → is_simple_and_free app ≡ true → HasMatchesOf a words m → fault_of a words ≡ [] → r ≡ f (rows_of (found_of m)) (subcommand_rows_of m)
    → r ≡ judged (fault_of app words) (f (matches_of app words) (subcommand_of app words))
read_ok {X} app a words m f r e simple has none h =
    let found = has (ap is_simple e ∙ (both (is_simple app) _ simple).0) in
    let faultless : fault_of app words ≡ [] = sym (ap (λ (x : App). fault_of x words) e) ∙ none in
    let rows : rows_of (found_of m) ≡ matches_of app words = found.0 ∙ ap (λ (x : App). matches_of x words) e in
    let sub : subcommand_rows_of m ≡ subcommand_of app words = found.1 ∙ ap (λ (x : App). subcommand_of x words) e in
    h ∙ (λ i. judged (sym faultless i) (f (rows i) (sub i)))

-- an error of words that are unread
pub is_why : {X : Type 0} (e : LineError) (why : Unread) (read : Result X Unread) → IsErrorOf e why → Err why ≡ read → IsWhy e read
is_why (error.Words fault) why read is h = sym h ∙ ap Err is
is_why error.Key why read is h = sym h ∙ ap Err is
is_why error.SuperKeyGiven why read is h = sym h ∙ ap Err is
is_why error.SuperKeyLacking why read is h = sym h ∙ ap Err is
is_why error.Memory why read is h = tt

refused : {X : Type 0} (ks : Kinds) (read : Result X Unread) → (ks ≡ [] → ⊥) → judged ks read ≡ Err unread.Words
refused [] read some = absurd (some refl)
refused (k ∷ ks) read some = refl

pub read_err : {X : Type 0} (app a : App) (words : List Text) (read : Result X Unread) (e : LineError) → a ≡ app
    → IsFaultOf e (fault_of a words) → IsWhy e (judged (fault_of app words) read)
read_err app a words read (error.Words fault) is some = refused (fault_of app words) read (subst (λ (x : App). fault_of x words ≡ [] → ⊥) is some)
read_err app a words read error.Key is none = absurd none
read_err app a words read error.SuperKeyGiven is none = absurd none
read_err app a words read error.SuperKeyLacking is none = absurd none
read_err app a words read error.Memory is some = tt
