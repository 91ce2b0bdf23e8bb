-- The 64-bit hash FNV-1a.
use Rattle.std.specs.Prelude.{ℕ, List, ◌*◌, ◌%◌, ◌^◌}
use Rattle.std.specs.List.{fold}
use Rattle.std.specs.Int.RustNames.{bit_xor}

-- the hash of no bytes
abbrev pub fnv_basis : ℕ
fnv_basis = 14_695_981_039_346_656_037

abbrev pub fnv_prime : ℕ
fnv_prime = 1_099_511_628_211

-- a hash with one byte more
abbrev pub fnv_step : ℕ → ℕ → ℕ
fnv_step h b = (bit_xor h b * fnv_prime) % 2 ^ 64

-- a hash with these bytes more
abbrev pub fnv : ℕ → List ℕ → ℕ
fnv h bs = fold fnv_step h bs
