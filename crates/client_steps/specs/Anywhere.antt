-- What a client answers, wherever that lies in memory.
use Rattle.std.specs.Prelude.{map, Result, Ok, Err}
use Rattle.std.specs.declared.vec.Vec.{Vec}
use Rattle.std.proofs.Common.{◌∙◌, sym}
use Rattle.std.proofs.Math.ListN.{length-map}
use Rattle.client_verify.specs.declared.look.Look.{Look}
use Rattle.client_verify.specs.declared.look.Look.TheVariants as look
use Rattle.client_verify.specs.declared.step.Step.{Step}
use Rattle.client_verify.specs.declared.step.Step.TheVariants as step
use Rattle.client_steps.specs.Steps.{Asks, Sees}

abbrev pub bytes_anywhere : {B A : Type 0} → Vec B A → Vec B (Unit {0})
bytes_anywhere v =
    record { ptr = v.ptr; len = v.len; cap = v.cap; alloc = tt; items = v.items; ok = v.ok; small = v.small }

abbrev pub texts_anywhere : {B A : Type 0} → Vec (Vec B A) A → Vec (Vec B (Unit {0})) (Unit {0})
texts_anywhere v =
    record {
      ptr = v.ptr;
      len = v.len;
      cap = v.cap;
      alloc = tt;
      items = map bytes_anywhere v.items;
      ok = (v.ok.0 ∙ sym (length-map v.items bytes_anywhere), v.ok.1);
      small = v.small;
    }

abbrev pub asked : {A : Type 0} → Step A → Asks
asked (step.Need digest) = step.Need digest
asked (step.Store texts) = step.Store (texts_anywhere texts)
asked (step.Broken rule) = step.Broken rule

abbrev pub seen : {A : Type 0} → Look A → Sees
seen (look.Need digest) = look.Need digest
seen (look.File bytes) = look.File (bytes_anywhere bytes)
seen (look.Dir entries) = look.Dir entries
seen look.None = look.None
seen (look.Kind kind) = look.Kind kind
seen (look.Free found) = look.Free found
seen (look.Broken rule) = look.Broken rule

abbrev pub on_ok : {T U E : Type 0} → (T → U) → Result T E → Result U E
on_ok f (Ok x) = Ok (f x)
on_ok f (Err e) = Err e
