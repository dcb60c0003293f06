-- The keys of scripts have identifiers of their own.
use Rattle.std.proofs.Common.{◌≡◌, ◌<◌, ◌+◌, ◌*◌, ℕ, zero, suc, Bool, true, false, ◌==◌, length, get_or, refl, sym, ap, ◌∙◌, arith}
use Rattle.layout.specs.Types.{Bytes, User}
use Rattle.client_releases.specs.Releasing.{no_secret}
use Rattle.release_runs.specs.UsedOnce.{AreApart}
use Rattle.client_runs.specs.Carried.{script_key, script_keys}
use Rattle.client_runs.proofs.Gaining.{keys_where}

-- the key of this number, where there is one
numbered : (u : User) (super : Bool) (n : ℕ) → n < length (keys_where u super) → get_or (keys_where u super) n no_secret ≡ script_key u n
numbered u true zero inside = refl
numbered u true (suc n) inside = absurd (omega (arith, inside))
numbered u false zero inside = refl
numbered u false (suc zero) inside = refl
numbered u false (suc (suc zero)) inside = refl
numbered u false (suc (suc (suc zero))) inside = refl
numbered u false (suc (suc (suc (suc n)))) inside = absurd (omega (arith, inside))

-- its identifier begins with a number that no other one's does
abbrev first_byte : Bytes → ℕ
first_byte id = get_or id 0 0

same_number : (u : User) (m n : ℕ) → (script_key u m).id ≡ (script_key u n).id → m ≡ n
same_number u m n same =
    let bytes : u + 64 * m ≡ u + 64 * n = ap first_byte same in
    omega (arith, bytes)

pub scripts_apart : (u : User) → AreApart (script_keys u)
scripts_apart u m n inside_m inside_n same =
    same_number u m n (ap (λ k. k.id) (sym (numbered u (u == 0) m inside_m)) ∙ same ∙ ap (λ k. k.id) (numbered u (u == 0) n inside_n))
