-- SPECIFICATION 7.2 to 7.6 and 7.11: the largest number of each kind that a call takes. The tests and what follows from
-- them name these; the bases stand in crates/residues/specs/Digits.antt.
use Rattle.std.specs.Prelude.{ℕ}

-- "n not 1..256, r not 1..16, K or L not 0..32, w not 0..256"
abbrev pub most_rank : ℕ
most_rank = 256

abbrev pub most_parts : ℕ
most_parts = 16

abbrev pub most_constraints : ℕ
most_constraints = 32

abbrev pub most_projections : ℕ
most_projections = 256

-- "κ, κ1 or κ2 not 1..8"
abbrev pub most_commitment_rank : ℕ
most_commitment_rank = 8

-- "t1, t2 not 2..8"; of bases, `Base` in crates/residues/specs/Digits.antt
abbrev pub most_digits : ℕ
most_digits = 8

-- "2ν+μ above 16; with one z digit ν+μ above 16"
abbrev pub most_chunks : ℕ
most_chunks = 16

-- "β², β'² or the bound on z negative or above 999999999999999"
abbrev pub most_bound : ℕ
most_bound = 999999999999999
