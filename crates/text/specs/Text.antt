-- Text as a list of bytes, and the part of it that a buffer holds.
use mathlib.Core.{Path.◌≡◌, Bool.cond, List.List, List.[], List.◌∷◌, List.◌++◌}
use Prim.Native.{Char.code, Nat.ℕ, Nat.zero, Nat.suc, Nat.◌+◌, Nat.◌-◌, Nat.◌/◌, Nat.◌%◌, Nat.◌<◌, Nat.◌^◌}
use Prim.Native.String.{String, [] as none, ◌∷◌ as ◌before◌}
use lib.{Dec.leb, Dec.ltb, IntN.ℤ, IntN.pos, IntN.neg_ℤ, ListN.length, ListN.set}
use Rattle.std.specs.Fmt as fmt
use Rattle.text.specs.declared.Window.{Window}

-- the bytes of a text in ASCII
abbrev pub bytes : String → List ℕ
bytes none = []
bytes (c before s) = code c ∷ bytes s

-- a number in decimal, without zeros before it: what `{}` writes
abbrev pub decimal : ℕ → List ℕ
decimal = fmt.decimal

-- the same by this many digits at most, digit by digit
unfoldable pub decimal_within : ℕ → ℕ → List ℕ
decimal_within zero n = []
decimal_within (suc most) n = cond (ltb n 10) [] (decimal_within most (n / 10)) ++ ((48 + n % 10) ∷ [])

-- a number of 64 bits has 20 digits at most: proved in proofs/Decimal.antt
abbrev pub DigitByDigit : Type 0
DigitByDigit = (n : ℕ) → n < 2 ^ 64 → decimal n ≡ decimal_within 20 n

-- a minus before a negative one
abbrev pub signed : ℤ → List ℕ
signed = fmt.signed_decimal

-- numbers to check with a pencil: proved in proofs/Examples.antt, by computing
pub record Examples : Type 0 where
  pub zero_is : decimal 0 ≡ bytes "0"
  pub ten_is : decimal 10 ≡ bytes "10"
  pub largest_is : decimal 18446744073709551615 ≡ bytes "18446744073709551615"
  pub negative_is : signed (neg_ℤ (pos 24000)) ≡ bytes "-24000"

-- a label and a number after it
abbrev pub with_number : String → ℕ → List ℕ
with_number label n = bytes label ++ decimal n

abbrev pub with_signed : String → ℤ → List ℕ
with_signed label x = bytes label ++ signed x

-- as much of a text as fits, over the front of a buffer: the rest of the buffer stays as it was
abbrev pub over : List ℕ → List ℕ → List ℕ
over [] out = out
over (b ∷ text) [] = []
over (b ∷ text) (o ∷ out) = b ∷ over text out

-- ---- what the functions that put a text piece by piece promise each other

-- a byte put at a place of a text into a buffer that lies over the text from an offset on: a place outside the buffer is passed over
abbrev pub placed_byte : ℕ → ℕ → ℕ → List ℕ → List ℕ
placed_byte at byte from out = cond (leb from at) (set out (at - from) byte) out

-- bytes put one after another from a place on
unfoldable pub placed : ℕ → List ℕ → ℕ → List ℕ → List ℕ
placed at [] from out = out
placed at (b ∷ text) from out = placed (at + 1) text from (placed_byte at b from out)

-- the place after a text fits 64 bits
abbrev pub Room : ℕ → List ℕ → Type 0
Room at text = at + length text < 2 ^ 64

-- a text is put at a place: the place after it, and the buffer
pub record Put (at : ℕ) (text : List ℕ) (from : ℕ) (out : List ℕ) (end : ℕ) (after : List ℕ) : Type 0 where
  pub end_is : end ≡ at + length text
  pub out_is : after ≡ placed at text from out

-- a text is put into a window, wherever there is room for it: the window is then this one
pub record Puts (first : Window) (text : List ℕ) (last : Window) : Type 0 where
  pub same_buffer : last.out.ghost_name ≡ first.out.ghost_name
  pub from_is : last.from ≡ first.from
  pub put : Room first.at text → Put first.at text first.from first.out.now last.at last.out.now
