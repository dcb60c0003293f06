use Rattle.std.proofs.Common.{refl, ap, arith}
use Rattle.std.specs.Prelude.{is_some}
use Rattle.directory.proofs.Linking.{few, some_at, some_is_name, target_of-IsFree}
use Rattle.directory.proofs.directory.room_for.Goals as goal

pub returns-in_default-clause-there : goal.returns-in_default-clause-there
returns-in_default-clause-there g c =
    let some = some_at c.args.entries.now c.args.name.now c.in_default.field-0 c.in_default.ensures in
    (λ e. some, λ e. refl)

pub returns-in_default-clause-bad_name : goal.returns-in_default-clause-bad_name
returns-in_default-clause-bad_name g c =
    let named = some_is_name c.args.entries.now c.args.name.now c.in_default.field-0 c.requires c.in_default.ensures in
    (λ e. absurd cc, λ none. absurd cc)

pub returns-in_default-clause-full : goal.returns-in_default-clause-full
returns-in_default-clause-full g c =
    let some = some_at c.args.entries.now c.args.name.now c.in_default.field-0 c.in_default.ensures in
    (λ e. absurd cc, λ full. let none = ap is_some full.0 in absurd cc)

pub returns-in_default-name_text-clause-there : goal.returns-in_default-name_text-clause-there
returns-in_default-name_text-clause-there g c =
    let none = ap is_some (target_of-IsFree c.args.entries.now c.args.name.now c.in-Err.place c.in-Err.ensures) in
    (λ e. absurd cc, λ some. absurd cc)

pub returns-then-entries-ge-MOST_ENTRIES-clause-there : goal.returns-then-entries-ge-MOST_ENTRIES-clause-there
returns-then-entries-ge-MOST_ENTRIES-clause-there g c =
    let none = ap is_some (target_of-IsFree c.args.entries.now c.args.name.now c.in-Err.place c.in-Err.ensures) in
    (λ e. absurd cc, λ some. absurd cc)

pub returns-then-entries-ge-MOST_ENTRIES-clause-full : goal.returns-then-entries-ge-MOST_ENTRIES-clause-full
returns-then-entries-ge-MOST_ENTRIES-clause-full g c =
    let none = target_of-IsFree c.args.entries.now c.args.name.now c.in-Err.place c.in-Err.ensures in
    (λ e. (none, c.in-Some.ensures.0, omega (arith, few c.args.entries.now c.requires)), λ e. refl)

pub returns-clause-there : goal.returns-clause-there
returns-clause-there g c =
    let none = ap is_some (target_of-IsFree c.args.entries.now c.args.name.now c.in-Err.place c.in-Err.ensures) in
    (λ e. absurd cc, λ some. absurd cc)
