-- What begins a stream, by reading it; and that its frames don't hang on how it was cut.
use Rattle.std.proofs.Common.{◌≡◌, ℕ, zero, suc, ◌<◌, ◌+◌, ◌≤◌, ◌-◌, ◌≢◌, ◌⊎◌, Bool, true, false, cond, ltb, ◌&&◌, List, [], ◌∷◌, ◌++◌, length, take, drop, Option, Some, Ok, Err, refl, sym, ap, subst, ◌∙◌, append_assoc, arith, inl, inr}
use Rattle.std.specs.Prelude.{nat_le, IfSome}
use Rattle.std.specs.Int.{w32, from_be_bytes}
use Rattle.std.proofs.lemmas.Bool.{lt-leb, le-leb, leb-false, and_right}
use Rattle.std.proofs.lemmas.List.{append-nil, drop_at, drop-drop, length-drop, length-append}
use Rattle.std.proofs.lemmas.List.Elements.{All-nil, All-cons}
use Rattle.layout.specs.declared.error.ReadError.{ReadError}
use Rattle.layout.specs.declared.error.ReadError.TheVariants.{Short, Range}
use Rattle.layout.specs.Format.{Answer, IsBytes, ◌>>=◌, uint, raw, Takes}
use Rattle.layout.specs.Laws.{lawful_uint, wide32}
use Rattle.wire.specs.Frame.{frame}
use Rattle.wire.specs.FrameLaws.{lawful_frame}
use Rattle.wire.specs.Stream.{IsFrameThen, BeginsFrame, BeginsAtFault, FramesStep, fed, handed_out, waited, met_fault, lacked_memory, Runs, stream_of, bodies_of, frames_of, IsStreamInFrames, IsCutAnyhow, IsAfterFault, IsFaultForGood}

pub some_holds : {X : Type 0} (P : X → Type 0) (o : Option X) (x : X) → o ≡ Some x → IfSome o P → P x
some_holds {X} P o x is holds = subst (λ (o : Option X). IfSome o P) is holds

-- ---- what begins a stream

abbrev in_range : ℕ → Bool
in_range size = nat_le 1 size && nat_le size 2097152

abbrev tested : Bool → ℕ × List ℕ → Answer ℕ
tested fits x = cond fits (Ok x) (Err Range)

abbrev with_size : ℕ → List ℕ × List ℕ → Answer (ℕ × List ℕ)
with_size size y = Ok ((size, y.0), y.1)

abbrev read_body : ℕ × List ℕ → Answer (ℕ × List ℕ)
read_body x = (raw x.0).read x.1 >>= with_size x.0

abbrev without_size : (ℕ × List ℕ) × List ℕ → Answer (List ℕ)
without_size x = Ok (x.0.1, x.1)

-- the answer for a frame, from that for its length
abbrev after_size : Answer ℕ → Answer (List ℕ)
after_size size = ((size >>= λ x. tested (in_range x.0) x) >>= read_body) >>= without_size

frame_read : (bytes : List ℕ) → frame.read bytes ≡ after_size ((uint w32).read bytes)
frame_read bytes = refl

is_out : (size : ℕ) → ((size ≡ 0) ⊎ (2097152 < size)) → in_range size ≡ false
is_out size (inl none) = rw none refl
is_out size (inr above) = and_right (nat_le 1 size) (nat_le size 2097152) (lt-leb size 2097152 above)

out_is : (size : ℕ) → in_range size ≡ false → (size ≡ 0) ⊎ (2097152 < size)
out_is zero out = inl refl
out_is (suc size) out = inr (leb-false (suc size) 2097152 (sym (ap (λ b. b && nat_le (suc size) 2097152) (le-leb 1 (suc size) (omega arith))) ∙ out))

-- a field that is cut isn't out of range
cut_size : (short : Bool) (x : ℕ × List ℕ) → (cut : Answer ℕ) → cut ≡ cond short (Err Short) (Ok x) → cut ≢ Err Range
cut_size true x cut is e = absurd cc
cut_size false x cut is e = absurd cc

cut_body : (short : Bool) (size : ℕ) (x : List ℕ × List ℕ) → (cut : Answer (List ℕ)) → cut ≡ ((cond short (Err Short) (Ok x) >>= with_size size) >>= without_size) → cut ≢ Err Range
cut_body true size x cut is e = absurd cc
cut_body false size x cut is e = absurd cc

abbrev after_range : Bool → ℕ → List ℕ → Answer (List ℕ)
after_range fits size rest = (tested fits (size, rest) >>= read_body) >>= without_size

-- a frame is read
pub reads_frame : (bytes : List ℕ) → IsBytes bytes → (body rest : List ℕ) → frame.read bytes ≡ Ok (body, rest) → IsFrameThen body rest bytes
reads_frame bytes fits body rest read = let t = lawful_frame.takes bytes body rest fits read in (t.fits, t.parts)

-- a length at fault is out of range
reads_fault : (bytes : List ℕ) → BeginsAtFault bytes → frame.read bytes ≡ Err Range
reads_fault bytes (size, rest, fits, out, is) =
    let read : (uint w32).read bytes ≡ Ok (size, rest) = ap (uint w32).read is ∙ (lawful_uint w32 wide32).again size rest fits in
    ap after_size read ∙ (let no = is_out size out in rw no refl)

-- where a whole frame begins, no length at fault does
pub either_begins : (bytes : List ℕ) → BeginsFrame bytes → BeginsAtFault bytes → ⊥
either_begins bytes (body, rest, (fits, is)) fault =
    let read : frame.read bytes ≡ Ok (body, rest) = ap frame.read is ∙ lawful_frame.again body rest fits in
    let same = sym (reads_fault bytes fault) ∙ read in absurd cc

-- where reading ends with another fault, neither begins
pub neither_begins : (bytes : List ℕ) (fault : ReadError) → fault ≢ Range → frame.read bytes ≡ Err fault → (¬ BeginsFrame bytes) × (¬ BeginsAtFault bytes)
neither_begins bytes fault other read = (
  (λ x. let again : frame.read bytes ≡ Ok (x.0, x.1) = ap frame.read x.2.1 ∙ lawful_frame.again x.0 x.1 x.2.0 in let same = sym again ∙ read in absurd cc),
  (λ x. let same = sym (reads_fault bytes x) ∙ read in other cc),
)

body_in_range : (size : ℕ) (rest : List ℕ) → after_range true size rest ≢ Err Range
body_in_range size rest e = cut_body (ltb (length rest) size) size (take size rest, drop size rest) (after_range true size rest) refl e

fault_at : (bytes : List ℕ) (size : ℕ) (rest : List ℕ) → Takes (uint w32) bytes size rest → (fits : Bool) → in_range size ≡ fits → after_range fits size rest ≡ Err Range → BeginsAtFault bytes
fault_at bytes size rest takes true is e = absurd (body_in_range size rest e)
fault_at bytes size rest takes false is e = (size, rest, takes.fits, out_is size is, takes.parts)

fault_is : (fault : ReadError) → after_size (Err fault) ≡ Err Range → fault ≡ Range
fault_is fault e = cc

fault_by : (bytes : List ℕ) → IsBytes bytes → (size : Answer ℕ) → (uint w32).read bytes ≡ size → after_size size ≡ Err Range → BeginsAtFault bytes
fault_by bytes fits (Ok x) is e = let law = lawful_uint w32 wide32 in fault_at bytes x.0 x.1 (law.takes bytes x.0 x.1 fits is) (in_range x.0) refl e
fault_by bytes fits (Err fault) is e =
    let range : (uint w32).read bytes ≡ Err Range = is ∙ ap (λ f. Err f) (fault_is fault e) in
    absurd (cut_size (ltb (length bytes) 4) (from_be_bytes w32 (take 4 bytes), drop 4 bytes) ((uint w32).read bytes) refl range)

-- what is out of range is a length at fault
pub range_is_fault : (bytes : List ℕ) → IsBytes bytes → frame.read bytes ≡ Err Range → BeginsAtFault bytes
range_is_fault bytes fits e = fault_by bytes fits ((uint w32).read bytes) refl e

-- what is after the front of the end of a list
pub end_after : (from : ℕ) (xs front rest : List ℕ) → drop from xs ≡ front ++ rest → length rest ≤ length xs
end_after from xs front rest is = omega (arith, length-drop from xs, ap length is, length-append front rest)

pub drop_after : (from : ℕ) (xs front rest : List ℕ) → from ≤ length xs → drop from xs ≡ front ++ rest → drop (length xs - length rest) xs ≡ rest
drop_after from xs front rest within is =
    let size : length xs - length rest ≡ from + length front = omega (arith, length-drop from xs, ap length is, length-append front rest) in
    ap (λ n. drop n xs) size ∙ sym (drop-drop (length front) from xs) ∙ ap (drop (length front)) is ∙ drop_at front rest (length front) refl

-- ---- the frames of a stream

front_is : (x y : List ℕ × List ℕ) (answer : Answer (List ℕ)) → answer ≡ Ok x → answer ≡ Ok y → x ≡ y
front_is x y answer one two = cc

-- the first frame is known
first_known : (a b xs ys : List ℕ) → frame.Fits a → frame.Fits b → frame.spell a ++ xs ≡ frame.spell b ++ ys → (a ≡ b) × (xs ≡ ys)
first_known a b xs ys one two is =
    let both = front_is (a, xs) (b, ys) (frame.read (frame.spell a ++ xs)) (lawful_frame.again a xs one) (ap frame.read is ∙ lawful_frame.again b ys two) in
    (ap (λ (p : List ℕ × List ℕ). p.0) both, ap (λ (p : List ℕ × List ℕ). p.1) both)

abbrev AllFit : List (List ℕ) → Type 0
AllFit [] = Unit {0}
AllFit (body ∷ bodies) = frame.Fits body × AllFit bodies

all_known : (a b : List (List ℕ)) (x y : List ℕ) → AllFit a → AllFit b → ¬ BeginsFrame x → ¬ BeginsFrame y → frames_of a ++ x ≡ frames_of b ++ y → (a ≡ b) × (x ≡ y)
all_known [] [] x y one two done all is = (refl, is)
all_known [] (b ∷ others) x y one two done all is = absurd (done (b, frames_of others ++ y, (two.0, is ∙ append_assoc (frame.spell b) (frames_of others) y)))
all_known (a ∷ more) [] x y one two done all is = absurd (all (a, frames_of more ++ x, (one.0, sym is ∙ append_assoc (frame.spell a) (frames_of more) x)))
all_known (a ∷ more) (b ∷ others) x y one two done all is =
    let first = first_known a b (frames_of more ++ x) (frames_of others ++ y) one.0 two.0 (sym (append_assoc (frame.spell a) (frames_of more) x) ∙ is ∙ append_assoc (frame.spell b) (frames_of others) y) in
    let rest = all_known more others x y one.1 two.1 done all first.1 in
    (ap (λ c. c ∷ more) first.0 ∙ ap (λ cs. b ∷ cs) rest.0, rest.1)

bodies_fit : (before after : List ℕ) (steps : List FramesStep) → Runs before steps after → AllFit (bodies_of steps)
bodies_fit before after [] run = tt
bodies_fit before after (fed piece ∷ steps) run = bodies_fit (before ++ piece) after steps run
bodies_fit before after (handed_out body ∷ steps) run = (run.1.0, bodies_fit run.0 after steps run.2)
bodies_fit before after (waited ∷ steps) run = bodies_fit before after steps run.2
bodies_fit before after (met_fault ∷ steps) run = bodies_fit before after steps run.1
bodies_fit before after (lacked_memory ∷ steps) run = bodies_fit before after steps run

stream_is : (before after : List ℕ) (steps : List FramesStep) → Runs before steps after → before ++ stream_of steps ≡ frames_of (bodies_of steps) ++ after
stream_is before after [] run = append-nil before ∙ run
stream_is before after (fed piece ∷ steps) run = sym (append_assoc before piece (stream_of steps)) ∙ stream_is (before ++ piece) after steps run
stream_is before after (handed_out body ∷ steps) run =
    ap (λ l. l ++ stream_of steps) run.1.1
    ∙ append_assoc (frame.spell body) run.0 (stream_of steps)
    ∙ ap (λ l. frame.spell body ++ l) (stream_is run.0 after steps run.2)
    ∙ sym (append_assoc (frame.spell body) (frames_of (bodies_of steps)) after)
stream_is before after (waited ∷ steps) run = stream_is before after steps run.2
stream_is before after (met_fault ∷ steps) run = stream_is before after steps run.1
stream_is before after (lacked_memory ∷ steps) run = stream_is before after steps run

pub stream_in_frames : IsStreamInFrames
stream_in_frames steps rest run = stream_is [] rest steps run

pub cut_anyhow : IsCutAnyhow
cut_anyhow steps others rest other_rest run other_run same done all =
    all_known (bodies_of steps) (bodies_of others) rest other_rest (bodies_fit [] rest steps run) (bodies_fit [] other_rest others other_run) done all (sym (stream_is [] rest steps run) ∙ same ∙ stream_is [] other_rest others other_run)

-- a length at fault stays in front
pub fault_stays : (bytes more : List ℕ) → BeginsAtFault bytes → BeginsAtFault (bytes ++ more)
fault_stays bytes more (size, rest, fits, out, is) = (size, rest ++ more, fits, out, ap (λ l. l ++ more) is ∙ append_assoc ((uint w32).spell size) rest more)

pub fault_for_good : IsFaultForGood
fault_for_good [] before after fault run = (All-nil IsAfterFault, subst BeginsAtFault run fault)
fault_for_good (fed piece ∷ steps) before after fault run =
    let rest = fault_for_good steps (before ++ piece) after (fault_stays before piece fault) run in (All-cons IsAfterFault (fed piece) steps tt rest.0, rest.1)
fault_for_good (handed_out body ∷ steps) before after fault run = absurd (either_begins before (body, run.0, run.1) fault)
fault_for_good (waited ∷ steps) before after fault run = absurd (run.1 fault)
fault_for_good (met_fault ∷ steps) before after fault run =
    let rest = fault_for_good steps before after fault run.1 in (All-cons IsAfterFault met_fault steps tt rest.0, rest.1)
fault_for_good (lacked_memory ∷ steps) before after fault run =
    let rest = fault_for_good steps before after fault run in (All-cons IsAfterFault lacked_memory steps tt rest.0, rest.1)
