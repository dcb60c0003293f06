-- A frame that is read from a connection, piece by piece.
use Rattle.std.proofs.Common.{arith, ◌≡◌, ◌⊎◌, ◌+◌, ◌-◌, ◌<◌, ◌≤◌, ℕ, zero, suc, Bool, true, [], ◌++◌, length, take, drop, Option, Some, None, Result, Ok, Err, refl, sym, ap, ◌∙◌, append_assoc, subst, inl, inr}
use Rattle.std.specs.Prelude.{IfSome, IfNone}
use Rattle.std.specs.Result.{IsErrAnd}
use Rattle.std.specs.declared.vec.Vec.{Vec}
use Rattle.std.specs.Int.{w32, from_be_bytes}
use Rattle.std.proofs.lemmas.Bool.{cases_lt, le-ltb}
use Rattle.std.proofs.lemmas.List.{append-nil, take-append-drop, length-take, length-drop, get_or-append-add, get_or_append_left, get_or-append_right, get_or_past}
use Rattle.layout.specs.Types.{Bytes}
use Rattle.layout.specs.Format.{IsBytes, uint, Takes}
use Rattle.layout.specs.Laws.{lawful_uint, wide32, in_range_fits}
use Rattle.connection.specs.Told.{Told, goes_on}
use Rattle.wire.specs.Frame.{frame}
use Rattle.wire.specs.Stream.{IsFrameThen, BeginsFrame, BeginsAtFault}
use Rattle.wire.proofs.Streams.{either_begins}
use Rattle.transport.specs.Asked.{came}
use Rattle.transport.specs.Receiving.{ReadOn, Received}
use Rattle.transport.specs.declared.transport.TransportError.{TransportError}
use Rattle.transport.specs.declared.transport.TransportError.TheVariants as why

-- ---- what a connection tells

pub told_none : (o : Option Told) → o ≡ goes_on [] [] o
told_none None = refl
told_none (Some t) = ap (λ r. Some (record { read = r; written = t.written })) (sym (append-nil t.read)) ∙ ap (λ w. Some (record { read = t.read ++ []; written = w })) (sym (append-nil t.written))

pub told_both : (o : Option Told) (r s w v : Bytes) → goes_on s v (goes_on r w o) ≡ goes_on (r ++ s) (w ++ v) o
told_both None r s w v = refl
told_both (Some t) r s w v = ap (λ x. Some (record { read = x; written = (t.written ++ w) ++ v })) (append_assoc t.read r s) ∙ ap (λ x. Some (record { read = t.read ++ (r ++ s); written = x })) (append_assoc t.written w v)

pub some_holds : {X : Type 0} (P : X → Type 0) (o : Option X) (x : X) → o ≡ Some x → IfSome o P → P x
some_holds {X} P o x is holds = subst (λ (o : Option X). IfSome o P) is holds

pub none_holds : {X : Type 0} (P : Type 0) (o : Option X) → o ≡ None → IfNone o P → P
none_holds {X} P o is holds = subst (λ (o : Option X). IfNone o P) is holds

-- ---- bytes

no_bytes : IsBytes []
no_bytes i = omega arith

pub bytes_none : (xs : Bytes) → xs ≡ [] → IsBytes xs
bytes_none xs is i = subst (λ l. IsBytes l) (sym is) no_bytes i

pub bytes_both : (xs ys : Bytes) → IsBytes xs → IsBytes ys → IsBytes (xs ++ ys)
bytes_both xs ys front rest i =
    elim (cases_lt i (length xs)) [
      | inl lt ↦ rw (get_or_append_left xs ys 0 i lt) (front i)
      | inr le ↦ rw (get_or-append_right xs ys (length xs) i 0 refl le) (rest (i - length xs))
    ]

pub bytes_after : (xs ys : Bytes) → IsBytes (xs ++ ys) → IsBytes ys
bytes_after xs ys all i = subst (λ n. n < 256) (get_or-append-add xs ys i 0) (all (length xs + i))

bytes_before : (xs ys : Bytes) → IsBytes (xs ++ ys) → IsBytes xs
bytes_before xs ys all i =
    elim (cases_lt i (length xs)) [
      | inl lt ↦ subst (λ n. n < 256) (get_or_append_left xs ys 0 i lt) (all i)
      | inr le ↦ rw (get_or_past xs i 0 le) (omega arith)
    ]

-- ---- so many bytes begin with a frame or with a length at fault

sized : (bytes : Bytes) (size : ℕ) (rest : Bytes) → Takes (uint w32) bytes size rest → size ≤ length rest → 1 ≤ size → size ≤ 2097152 → BeginsFrame bytes
sized bytes size rest takes long some few =
    let body = take size rest in
    let split : body ++ drop size rest ≡ rest = take-append-drop size rest in
    let len : length body ≡ size = omega (arith, length-take size rest) in
    let whole : IsBytes body = bytes_before body (drop size rest) (subst IsBytes (sym split) takes.rest_fits) in
    let fits : frame.Fits body = (in_range_fits w32 1 2097152 (length body) (subst (λ n. n < 4294967296) (sym len) takes.fits) (omega (arith, len)) (omega (arith, len)), (refl, whole)) in
    let spelled : (uint w32).spell size ++ rest ≡ frame.spell body ++ drop size rest =
    ap (λ n. (uint w32).spell n ++ rest) (sym len)
    ∙ ap (λ r. (uint w32).spell (length body) ++ r) (sym split)
    ∙ sym (append_assoc ((uint w32).spell (length body)) body (drop size rest)) in
    (body, drop size rest, (fits, takes.parts ∙ spelled))

begins_by : (bytes : Bytes) (size : ℕ) (rest : Bytes) → Takes (uint w32) bytes size rest → 2097152 ≤ length rest → BeginsFrame bytes ⊎ BeginsAtFault bytes
begins_by bytes zero rest takes long = inr (zero, rest, takes.fits, inl refl, takes.parts)
begins_by bytes (suc size) rest takes long =
    elim (cases_lt 2097152 (suc size)) [
      | inl above ↦ inr (suc size, rest, takes.fits, inr above, takes.parts)
      | inr within ↦ inl (sized bytes (suc size) rest takes (omega arith) (omega arith) within)
    ]

begins_anyhow : (bytes : Bytes) → IsBytes bytes → 2097156 ≤ length bytes → BeginsFrame bytes ⊎ BeginsAtFault bytes
begins_anyhow bytes fits long =
    let four : 4 ≤ length bytes = omega arith in
    let read : (uint w32).read bytes ≡ Ok (from_be_bytes w32 (take 4 bytes), drop 4 bytes) = rw (le-ltb (length bytes) 4 four) refl in
    begins_by bytes (from_be_bytes w32 (take 4 bytes)) (drop 4 bytes) ((lawful_uint w32 wide32).takes bytes (from_be_bytes w32 (take 4 bytes)) (drop 4 bytes) fits read) (omega (arith, length-drop 4 bytes))

-- where neither begins, fewer bytes wait than a frame may have
pub few_wait : (bytes : Bytes) → IsBytes bytes → (¬ BeginsFrame bytes) × (¬ BeginsAtFault bytes) → length bytes < 2097156
few_wait bytes fits neither =
    elim (cases_lt (length bytes) 2097156) [
      | inl few ↦ few
      | inr long ↦ absurd (elim (begins_anyhow bytes fits long) [ inl framed ↦ neither.0 framed | inr fault ↦ neither.1 fault ])
    ]

-- ---- reading

-- what was read waits, after what waited
pub record Reading (before now : Option Told) (waiting waiting_now : Bytes) : Type 0 where
  pub read : Bytes
  pub told : now ≡ goes_on read [] before
  pub waits : waiting_now ≡ waiting ++ read

pub reading_starts : (told : Option Told) (waiting : Bytes) → Reading told told waiting waiting
reading_starts told waiting = record { read = []; told = told_none told; waits = sym (append-nil waiting) }

pub reads_more : (before now later : Option Told) (waiting waiting_now waiting_later : Bytes) → Reading before now waiting waiting_now → ReadOn now later waiting_now waiting_later → Reading before later waiting waiting_later
reads_more before now later waiting waiting_now waiting_later so more = record {
  read = so.read ++ more.piece;
  told = more.told ∙ ap (goes_on more.piece []) so.told ∙ told_both before so.read more.piece [] [];
  waits = more.waits ∙ ap (λ l. l ++ more.piece) so.waits ∙ append_assoc waiting so.read more.piece;
}

pub finds : (before now : Option Told) (waiting waiting_now rest body : Bytes) (at_end : Bool) → Reading before now waiting waiting_now → IsFrameThen body rest waiting_now → Received (Ok body) before now waiting rest at_end
finds before now waiting waiting_now rest body at_end so next = record {
  read = so.read;
  told = so.told;
  brings = (next.0, sym so.waits ∙ next.1);
}

pub meets_fault : (before now : Option Told) (waiting waiting_now rest : Bytes) (at_end : Bool) → Reading before now waiting waiting_now → BeginsAtFault waiting_now → Received (Err why.NoFrame) before now waiting rest at_end
meets_fault before now waiting waiting_now rest at_end so fault =
    let here = subst BeginsAtFault so.waits fault in
    record { read = so.read; told = so.told; brings = (λ framed. either_begins (waiting ++ so.read) framed here, inr here) }

pub lacks_memory : (before now : Option Told) (waiting waiting_now rest : Bytes) (at_end : Bool) → Reading before now waiting waiting_now → Received (Err why.Memory) before now waiting rest at_end
lacks_memory before now waiting waiting_now rest at_end so = record { read = so.read; told = so.told; brings = tt }

-- it can't be read on
abbrev pub BreaksOff : {X : Type 0} → Result X TransportError → Option Told → Option Told → Bool → Type 0
BreaksOff result now later at_end = (piece : Bytes) × (later ≡ goes_on piece [] now) × (result ≡ Err why.NoFrame → (piece ≡ []) × (at_end ≡ true))

pub breaks_off : {X : Type 0} (e : TransportError) (before now later : Option Told) (waiting waiting_now rest : Bytes) (at_end : Bool) → Reading before now waiting waiting_now → ¬ BeginsFrame waiting_now → BreaksOff {X = X} (Err e) now later at_end → Received (Err e) before later waiting rest at_end
breaks_off why.NoFrame before now later waiting waiting_now rest at_end so none (piece, told, ended) =
    let e = ended refl in
    record {
      read = so.read;
      told = told ∙ ap (λ p. goes_on p [] now) e.0 ∙ sym (told_none now) ∙ so.told;
      brings = (λ framed. none (subst BeginsFrame (sym so.waits) framed), inl e.1);
    }
breaks_off why.Fault before now later waiting waiting_now rest at_end so none (piece, told, ended) = record {
  read = so.read ++ piece;
  told = told ∙ ap (goes_on piece []) so.told ∙ told_both before so.read piece [] [];
  brings = tt;
}
breaks_off why.Memory before now later waiting waiting_now rest at_end so none (piece, told, ended) = record {
  read = so.read ++ piece;
  told = told ∙ ap (goes_on piece []) so.told ∙ told_both before so.read piece [] [];
  brings = tt;
}

pub came_as : {A : Type 0} (r : Result (Vec ℕ A) TransportError) (e : TransportError) → IsErrAnd r (λ x. x ≡ e) → came r ≡ Err e
came_as (Ok body) e is = absurd is
came_as (Err x) e is = ap (λ y. Err y) is

pub breaks_off_as : {X : Type 0} (r : Result Bytes TransportError) (e : TransportError) (before now later : Option Told) (waiting waiting_now rest : Bytes) (at_end : Bool) → r ≡ Err e → Reading before now waiting waiting_now → ¬ BeginsFrame waiting_now → BreaksOff {X = X} (Err e) now later at_end → Received r before later waiting rest at_end
breaks_off_as {X} r e before now later waiting waiting_now rest at_end is so none broke =
    subst (λ x. Received x before later waiting rest at_end) (sym is) (breaks_off {X = X} e before now later waiting waiting_now rest at_end so none broke)
