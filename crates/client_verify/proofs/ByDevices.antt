-- What is so of a call that fails by its devices alone.
use Rattle.std.proofs.Common.{◌≡◌, ◌≢◌, Ok, Err, sym, ◌∙◌}
use Rattle.std.specs.Prelude.{Result, IfErr, IsErrOf}
use Rattle.client_releases.specs.declared.error.ClientError.{ClientError}
use Rattle.client_releases.specs.declared.error.ClientError.TheVariants as error

pub no_other : {T : Type 0} (r : Result T ClientError) (x : ClientError) → x ≢ error.Device → IfErr r (λ e. e ≡ error.Device) → IsErrOf r x → ⊥
no_other (Ok v) x other told is = cc is
no_other (Err e) x other told is = let same : e ≡ x = cc in other (sym same ∙ told)

pub none_of_three : {T : Type 0} (r : Result T ClientError) → IfErr r (λ e. e ≡ error.Device) → IfErr r (λ e. (e ≢ error.NoNumber) × (e ≢ error.Foreign) × (e ≢ error.Damaged))
none_of_three (Ok v) told = tt
none_of_three (Err e) told = (λ s. cc (told, s), λ s. cc (told, s), λ s. cc (told, s))

pub never_without : {T : Type 0} (P : Type 0) (r : Result T ClientError) → IfErr r (λ e. e ≡ error.Device) → IfErr r (λ e. e ≢ error.Device → P)
never_without P (Ok v) told = tt
never_without P (Err e) told = λ other. absurd (other told)
