-- Document 01's clamp and spread limit, which hold on every day.
use Rattle.std.specs.Prelude.{ℕ}
use Rattle.funding.specs.declared.Terms.{Terms}

-- 01: "clamp 2,000,000 nano, spread limit 0.005", the limit in units of 0.0001
abbrev pub clamp : ℕ
clamp = 2000000

abbrev pub spread_limit : ℕ
spread_limit = 50

abbrev pub standard_terms : Terms
standard_terms = record { below = clamp; above = clamp; spread = spread_limit }
