-- The digits of a digest, by which chains are cut (RFC 8554 sections 3.1.3 and 4.4).
use Rattle.std.specs.Prelude.{ℕ, ◌-◌, ◌*◌, ◌/◌, ◌%◌, ◌++◌, map, sum, slice_index, if◌then◌else◌, ◌==◌}
use Rattle.std.specs.Int.{w16}
use Rattle.std.specs.List.{range_with_len}
use Rattle.layout.specs.Format.{be}
use Rattle.layout.specs.Types.{Bytes, Digest}

-- the 4-bit digit with this number, the high half of each byte first: coef(S, i, 4)
unfoldable pub coefficient : Bytes → ℕ → ℕ
coefficient bytes i = if i % 2 == 0 then slice_index bytes (i / 2) / 16 % 16 else slice_index bytes (i / 2) % 16

-- Cksm: what the 64 digits of a digest lack to 15 each, shifted left by 4
unfoldable pub checksum : Digest → ℕ
checksum digest = sum (map (λ i. 15 - coefficient digest i) (range_with_len 0 64)) * 16

-- one of the 67 digits of a digest and its checksum
unfoldable pub digit : Digest → ℕ → ℕ
digit digest i = coefficient (digest ++ be w16 (checksum digest)) i
