-- The examples of numbers in decimal, by computing. Assumes nothing.
use mathlib.Core.Path.{refl}
use Rattle.std.specs.Fmt.{digits}
use Rattle.text.specs.Text.{Examples}

pub examples : Examples
unfolding digits
examples = record { zero_is = refl; ten_is = refl; largest_is = refl; negative_is = refl }
