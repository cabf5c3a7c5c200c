-- What a close does to the account columns: document 01, "A trade date, call by call".
use Rattle.std.specs.Prelude.{List, cond, ℕ, ◌*ℤ◌, ◌+ℤ◌, ◌-ℤ◌, pos, ℤ}
use lib.ListN.{replicate}
use Rattle.day.specs.Day.{is_final_date}
use Rattle.figures.specs.declared.Figures.{Figures}
use Rattle.columns.specs.{declared.Columns.Columns, Columns.entry, Columns.table}

-- 01: "cash rises by (position × P − opening position × previous price − cost) × size + position × amount × 100"
abbrev pub posting : Figures → ℤ → ℤ → ℤ → ℤ
posting f position opening cost =
    (position *ℤ pos f.day.fixed.price -ℤ opening *ℤ pos f.previous.price -ℤ cost) *ℤ pos f.size +ℤ position *ℤ f.day.fixed.amount *ℤ pos 100

-- the cash of account j after it, from the four columns
abbrev pub posted : Figures → List ℤ → List ℤ → List ℤ → List ℤ → ℕ → ℤ
posted f opening position cost cash j = entry cash j +ℤ posting f (entry position j) (entry opening j) (entry cost j)

-- the columns of n accounts with that cash
abbrev pub posted_columns : ℕ → Figures → Columns → Columns
posted_columns n f c = record {
  opening = c.opening;
  position = c.position;
  cost = c.cost;
  volume = c.volume;
  cash = table n (posted f c.opening c.position c.cost c.cash);
}

-- the positions that a close leaves: 02-7, "The final close posts as usual on the positions before it, then clears every present and opening position"
abbrev pub positions_left : ℕ → Figures → List ℤ → List ℤ
positions_left n f position = cond (is_final_date f.day) (replicate n (pos 0)) position

-- 01: "present positions become opening ones"
abbrev pub carried_columns : ℕ → Figures → Columns → Columns
carried_columns n f c = record {
  opening = positions_left n f c.position;
  position = positions_left n f c.position;
  cost = c.cost;
  volume = c.volume;
  cash = c.cash;
}

-- 01: "the day's figures (… v, cost …) … start empty"
abbrev pub closed_columns : ℕ → Figures → Columns → Columns
closed_columns n f c = record {
  opening = (carried_columns n f c).opening;
  position = (carried_columns n f c).position;
  cost = replicate n (pos 0);
  volume = replicate n 0;
  cash = (posted_columns n f c).cash;
}
