-- What is known of each call of a history on the book before it: of an accepted call, and of each trade of an accepted set.
--     allowed_call      an accepted call
--     allowed_trade     a trade of a set that is booked
-- Assumes nothing.
use mathlib.Core.Path.{◌≡◌, refl}
use mathlib.Core.Bool.{false, not}
use Prim.Native.Nat.{ℕ}
use Rattle.calls.specs.declared.Call.TheVariants as call
use Rattle.calls.specs.Calls.{on_trade}
use Rattle.calls.specs.declared.Trade.{Trade}
use Rattle.calls.specs.declared.Call.{Call}
use Rattle.calls.proofs.Calls.{on_trade_is}
use Rattle.refusals.specs.Refusals.{Accounts, no_accounts}
use Rattle.refusals.proofs.Passed.{unmet}
use Rattle.figures.specs.Figures.{is_over}
use Rattle.figures.proofs.Held.{HeldFigures}
use Rattle.outcomes.proofs.Passed.{PassedFigures}
use Rattle.counterparties.specs.Counterparties.{are_accounts}
use Rattle.trading.specs.Trading.{own_sentences}
use Rattle.trading.specs.Inner.{Passes}
use Rattle.ledger.specs.declared.Book.{Book}
use Rattle.ledger.proofs.Held.{held}
use Rattle.ledger.proofs.Passed.{Passed}
use Rattle.ledger.proofs.Interim.{Interim}

-- what the accounts of a trade say without the limits of their v and positions
abbrev pub without_limits : ℕ → Trade → Accounts
without_limits n t = record { missing = not (are_accounts n t); volume = false; position = false }

abbrev pub accounts_allow : ℕ → Call → Accounts
accounts_allow n = on_trade (without_limits n) no_accounts

pub record Allowed (n : ℕ) (b : Book) (c : Call) : Type 0 where
  pub figures : HeldFigures b.figures
  pub sentences : PassedFigures b.figures c (accounts_allow n c)

pub allowed_call : (n : ℕ) (b : Book) (c : Call) → Passed n b c → Allowed n b c
allowed_call n b c p =
    let s = p.sentences in
    record {
      figures = (held n b p.limits).figures;
      sentences = record {
        day = s.day;
        halt = s.halt;
        month = s.month;
        field = s.field;
        time = s.time;
        market = s.market;
        accounts = on_trade_is (λ a. a.missing ≡ false) (without_limits n) no_accounts c (λ t e. (rw e at s).accounts) refl;
        volume = on_trade_is (λ a. a.volume ≡ false) (without_limits n) no_accounts c (λ t e. refl) refl;
        position = on_trade_is (λ a. a.position ≡ false) (without_limits n) no_accounts c (λ t e. refl) refl;
        price = s.price;
      };
    }

pub allowed_trade : (n : ℕ) (b : Book) (t : Trade) → Interim n b → is_over b.figures ≡ false → b.figures.halted ≡ false → Passes n t → Allowed n b (call.Trade t)
allowed_trade n b t i over halted p =
    let u = unmet (own_sentences n t) refl p in
    record {
      figures = i.figures;
      sentences = record {
        day = over;
        halt = halted;
        month = refl;
        field = u 0;
        time = refl;
        market = refl;
        accounts = u 1;
        volume = refl;
        position = refl;
        price = refl;
      };
    }
