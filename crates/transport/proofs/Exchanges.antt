-- What an exchange over a connection did, from what its write and its reads did.
use Rattle.std.proofs.Common.{◌≡◌, ◌≤◌, ◌<◌, ℕ, Bool, true, false, [], ◌++◌, length, Option, Some, None, Result, Ok, Err, refl, sym, ap, ◌∙◌, subst, inl, inr}
use Rattle.std.proofs.lemmas.List.{append-nil}
use Rattle.layout.specs.Types.{Bytes}
use Rattle.leaf_ledger.specs.Device.{HasRisen}
use Rattle.connection.specs.Told.{Told, goes_on}
use Rattle.wire.specs.declared.kinds.RequestKind.{RequestKind}
use Rattle.wire.specs.Frame.{frame, request}
use Rattle.transport.specs.Asked.{Asked}
use Rattle.transport.specs.Framing.{Standing, Exchanged, Brings, Leaves, shown}
use Rattle.transport.specs.Receiving.{Answered, NoFrameComes, Received}
use Rattle.transport.specs.declared.transport.TransportError.{TransportError}
use Rattle.transport.specs.declared.transport.TransportError.TheVariants as why
use Rattle.transport.proofs.Reading.{told_both}

abbrev pub standing : Option Told → Bool → ℕ → Bytes → Bool → Standing
standing told at_end faults waiting broken = record { told = told; at_end = at_end; faults = faults; waiting = waiting; broken = broken }

abbrev pub text_of : Asked → Bytes
text_of asked = frame.spell (request asked.kind asked.payload)

-- the request was written, and then this was read
written_and_read : (told told' told'' : Option Told) (text read : Bytes) → told' ≡ goes_on [] text told → told'' ≡ goes_on read [] told' → told'' ≡ goes_on read text told
written_and_read told told' told'' text read wrote got = got ∙ ap (goes_on read []) wrote ∙ told_both told [] read text [] ∙ ap (λ w. goes_on read w told) (append-nil text)

-- ---- what was written and read

-- the frame was written, and then so much was read
abbrev answered : (r : Result Bytes TransportError) (told told' told'' : Option Told) (waiting waiting'' text : Bytes) (at_end : Bool)
    → told' ≡ goes_on [] text told → Received r told' told'' waiting waiting'' at_end → Answered r text told told'' waiting waiting'' at_end
answered r told told' told'' waiting waiting'' text at_end wrote got = record {
  read = got.read;
  written = text;
  unwritten = [];
  told = written_and_read told told' told'' text got.read wrote got.told;
  in_order = sym (append-nil text);
  whole = inl refl;
  brings = got.brings;
}

-- a part of the frame was written
abbrev unwritten : (told told' : Option Told) (waiting waiting' text : Bytes) (at_end : Bool)
    → ((part rest : Bytes) × (told' ≡ goes_on [] part told) × (text ≡ part ++ rest)) → Answered (Err why.Fault) text told told' waiting waiting' at_end
unwritten told told' waiting waiting' text at_end (part, rest, wrote, cut) = record {
  read = [];
  written = part;
  unwritten = rest;
  told = wrote;
  in_order = cut;
  whole = inr refl;
  brings = tt;
}

-- ---- a connection that doesn't tell shows nothing of it

untold_with : (r : Result Bytes TransportError) (text read : Bytes) (at_end : Bool) → Brings r read [] at_end → Answered r text None None [] [] at_end
untold_with r text read at_end brings = record {
  read = read;
  written = text;
  unwritten = [];
  told = refl;
  in_order = sym (append-nil text);
  whole = inl refl;
  brings = brings;
}

untold : (r : Result Bytes TransportError) (text came waiting : Bytes) (at_end : Bool) → Brings r came waiting at_end → Answered r text None None [] [] at_end
untold (Ok body) text came waiting at_end brings = untold_with (Ok body) text (frame.spell body) at_end (brings.0, sym (append-nil (frame.spell body)))
untold (Err why.NoFrame) text came waiting at_end brings = untold_with (Err why.NoFrame) text came at_end brings
untold (Err why.Fault) text came waiting at_end brings = untold_with (Err why.Fault) text [] at_end tt
untold (Err why.Memory) text came waiting at_end brings = untold_with (Err why.Memory) text [] at_end tt

as_shown : (r : Result Bytes TransportError) (text : Bytes) (told told'' : Option Told) (waiting waiting'' : Bytes) (at_end : Bool)
    → Answered r text told told'' waiting waiting'' at_end → Answered r text told told'' (shown told waiting) (shown told'' waiting'') at_end
as_shown r text None told'' waiting waiting'' at_end a =
    subst (λ t. Answered r text None t [] (shown t waiting'') at_end) (sym a.told) (untold r text (waiting ++ a.read) waiting'' at_end a.brings)
as_shown r text (Some told) told'' waiting waiting'' at_end a =
    subst (λ t. Answered r text (Some told) t waiting (shown t waiting'') at_end) (sym a.told) (record {
      read = a.read;
      written = a.written;
      unwritten = a.unwritten;
      told = refl;
      in_order = a.in_order;
      whole = a.whole;
      brings = a.brings;
    })

pub answered_shown : (r : Result Bytes TransportError) (told told' told'' : Option Told) (waiting waiting'' text : Bytes) (at_end : Bool)
    → told' ≡ goes_on [] text told → Received r told' told'' waiting waiting'' at_end
    → Answered r text told told'' (shown told waiting) (shown told'' waiting'') at_end
answered_shown r told told' told'' waiting waiting'' text at_end wrote got =
    as_shown r text told told'' waiting waiting'' at_end (answered r told told' told'' waiting waiting'' text at_end wrote got)

pub unwritten_shown : (r : Result Bytes TransportError) (told told' : Option Told) (waiting waiting' text : Bytes) (at_end : Bool) → r ≡ Err why.Fault
    → ((part rest : Bytes) × (told' ≡ goes_on [] part told) × (text ≡ part ++ rest))
    → Answered r text told told' (shown told waiting) (shown told' waiting') at_end
unwritten_shown r told told' waiting waiting' text at_end is cut =
    subst (λ x. Answered x text told told' (shown told waiting) (shown told' waiting') at_end) (sym is)
    (as_shown (Err why.Fault) text told told' waiting waiting' at_end (unwritten told told' waiting waiting' text at_end cut))

-- where neither before nor after it tells, whatever went ahead
pub untold_shown : (r : Result Bytes TransportError) (told told'' : Option Told) (waiting waiting'' text came rest : Bytes) (at_end : Bool)
    → told ≡ None → told'' ≡ None → Brings r came rest at_end → Answered r text told told'' (shown told waiting) (shown told'' waiting'') at_end
untold_shown r told told'' waiting waiting'' text came rest at_end before now brings =
    subst (λ t. Answered r text t told'' (shown t waiting) (shown told'' waiting'') at_end) (sym before)
    (subst (λ t. Answered r text None t [] (shown t waiting'') at_end) (sym now) (untold r text came rest at_end brings))

-- where no frame comes, or a fault or want of memory is told
pub brings_none : (e : TransportError) (rest : Bytes) (at_end : Bool) → (e ≡ why.NoFrame → NoFrameComes at_end) → (came : Bytes) × Brings (Err e) came rest at_end
brings_none why.NoFrame rest at_end none = let it = none refl in (it.0, (it.1, it.2))
brings_none why.Fault rest at_end none = ([], tt)
brings_none why.Memory rest at_end none = ([], tt)

pub untold_err : (r : Result Bytes TransportError) (e : TransportError) (told told'' : Option Told) (waiting waiting'' text : Bytes) (at_end : Bool)
    → r ≡ Err e → told ≡ None → told'' ≡ None → (e ≡ why.NoFrame → NoFrameComes at_end)
    → Answered r text told told'' (shown told waiting) (shown told'' waiting'') at_end
untold_err r e told told'' waiting waiting'' text at_end is before now none =
    let it = brings_none e [] at_end none in
    subst (λ x. Answered x text told told'' (shown told waiting) (shown told'' waiting'') at_end) (sym is)
    (untold_shown (Err e) told told'' waiting waiting'' text it.0 [] at_end before now it.1)

-- ---- an exchange

abbrev exchanges : (asked : Asked) (r : Result Bytes TransportError) (told told'' : Option Told) (at_end at_end'' broken broken'' : Bool) (faults faults'' : ℕ) (waiting waiting'' text : Bytes)
    → length asked.payload < 2097152 → broken ≡ false → text ≡ text_of asked
    → Answered r text told told'' waiting waiting'' at_end'' → Leaves r broken'' → faults ≤ faults'' → (r ≡ Err why.Fault → HasRisen faults faults'')
    → Exchanged asked r (standing told at_end faults waiting broken) (standing told'' at_end'' faults'' waiting'' broken'')
exchanges asked r told told'' at_end at_end'' broken broken'' faults faults'' waiting waiting'' text small going spelled did leaves later risen = record {
  sent = inr (record {
    small = small;
    going = going;
    read = did.read;
    written = did.written;
    unwritten = did.unwritten;
    told = did.told;
    in_order = sym spelled ∙ did.in_order;
    whole = did.whole;
    brings = did.brings;
    leaves = leaves;
  });
  later = later;
  rose = risen;
}

-- the same where what it was before is known by an equation: no reply came
pub unanswered : (asked : Asked) (r : Result Bytes TransportError) (e : TransportError) (before now : Standing) (told : Option Told) (at_end broken : Bool) (faults : ℕ) (waiting text : Bytes)
    → r ≡ Err e → before ≡ standing told at_end faults waiting broken
    → length asked.payload < 2097152 → broken ≡ false → text ≡ text_of asked
    → Answered (Err e) text told now.told waiting now.waiting now.at_end → now.broken ≡ true → faults ≤ now.faults → (e ≡ why.Fault → HasRisen faults now.faults)
    → Exchanged asked r before now
unanswered asked r e before now told at_end broken faults waiting text is was small going spelled did broke later risen =
    subst (λ x. Exchanged asked x before now) (sym is)
    (subst (λ b. Exchanged asked (Err e) b now) (sym was)
    (exchanges asked (Err e) told now.told at_end now.at_end broken now.broken faults now.faults waiting now.waiting text small going spelled did broke later (λ same. risen cc)))

-- and here a reply came, after which it isn't broken any more
pub replied : (asked : Asked) (body : Bytes) (before now : Standing) (told told'' : Option Told) (at_end at_end'' broken broken'' : Bool) (faults faults'' : ℕ) (waiting waiting'' text : Bytes)
    → before ≡ standing told at_end faults waiting broken → standing told'' at_end'' faults'' waiting'' broken'' ≡ now
    → length asked.payload < 2097152 → broken ≡ false → text ≡ text_of asked
    → Answered (Ok body) text told now.told waiting now.waiting now.at_end → faults ≤ now.faults
    → Exchanged asked (Ok body) before (standing told'' at_end'' faults'' waiting'' false)
replied asked body before now told told'' at_end at_end'' broken broken'' faults faults'' waiting waiting'' text was is small going spelled did later =
    let here = subst (λ n. Answered (Ok body) text told n.told waiting n.waiting n.at_end) (sym is) did in
    let more = subst (λ n. faults ≤ n.faults) (sym is) later in
    subst (λ b. Exchanged asked (Ok body) b (standing told'' at_end'' faults'' waiting'' false)) (sym was)
    (exchanges asked (Ok body) told told'' at_end at_end'' broken false faults faults'' waiting waiting'' text small going spelled here refl more (λ same. absurd cc))

-- the frame that is written is the request's
pub spelled_as : (asked : Asked) (kind : RequestKind) (payload framed text : Bytes) → kind ≡ asked.kind → payload ≡ asked.payload → framed ≡ frame.spell (request kind payload) → text ≡ framed → text ≡ text_of asked
spelled_as asked kind payload framed text kinds payloads spelled same = same ∙ spelled ∙ ap (λ k. frame.spell (request k payload)) kinds ∙ ap (λ p. frame.spell (request asked.kind p)) payloads
