-- What an accepted call does to a book: document 01, "A trade date, call by call".
use Rattle.std.specs.Prelude.{ℕ}
use Rattle.calls.specs.{Calls.on_trade, Calls.on_close, declared.Trade.Trade, declared.Call.Call}
use Rattle.trading.specs.Trading.{traded_columns}
use Rattle.closing.specs.Closing.{closed_columns}
use Rattle.outcomes.specs.Effects.{figures_after}
use Rattle.figures.specs.declared.Figures.{Figures}
use Rattle.ledger.specs.declared.Book.{Book}

-- a book with other figures
abbrev pub with_figures : Book → Figures → Book
with_figures b f = record { figures = f; columns = b.columns }

-- a book after a trade
abbrev pub traded_book : Book → Figures → Trade → Book
traded_book b f t = record { figures = f; columns = traded_columns b.columns t }

-- and after a close
abbrev pub closed_book : ℕ → Book → Figures → Book
closed_book n b f = record { figures = f; columns = closed_columns n b.figures b.columns }

-- the book of n accounts after an accepted call
unfoldable pub effect : ℕ → Book → Call → Book
effect n b c =
    let f = figures_after b.figures c in
    on_trade (traded_book b f) (on_close (closed_book n b f) (with_figures b f) c) c
