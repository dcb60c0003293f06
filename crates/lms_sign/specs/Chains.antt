-- The chains of a leaf (RFC 8554 sections 4.2 and 4.3, and Appendix A).
use Rattle.std.specs.Prelude.{ℕ, zero, suc, ◌+◌, ◌-◌, ◌++◌}
use Rattle.std.specs.Int.{w8}
use Rattle.layout.specs.Format.{be}
use Rattle.layout.specs.Types.{Bytes, Digest}
use Rattle.lms_sign.specs.Hashing.{hash_of}

-- a step of a chain
unfoldable pub step : Bytes → ℕ → ℕ → ℕ → Bytes → Digest
step id leaf chain number value = hash_of id leaf chain (be w8 number ++ value)

-- what so many steps make of a value, the first of them with this number
unfoldable pub chained : Bytes → ℕ → ℕ → ℕ → ℕ → Digest → Digest
chained id leaf chain first zero value = value
chained id leaf chain first (suc count) value = step id leaf chain (first + count)
    (chained id leaf chain first count value)

-- what is drawn from the seed for a chain: a step from the seed that no chain has
unfoldable pub drawn : Bytes → Bytes → ℕ → ℕ → Digest
drawn seed id leaf chain = step id leaf chain 0xff seed

-- the value of a chain after so many steps from its start
abbrev pub value_of : Bytes → Bytes → ℕ → ℕ → ℕ → Digest
value_of seed id leaf steps chain = chained id leaf chain 0 steps (drawn seed id leaf chain)

-- the end of a chain, from its value after so many steps
abbrev pub end_from : Bytes → ℕ → ℕ → ℕ → Digest → Digest
end_from id leaf chain steps value = chained id leaf chain steps (15 - steps) value
