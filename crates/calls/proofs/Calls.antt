-- A call is of one kind, or what is said of that kind alone gives its `other`.
--     trade_or, fix_or, close_or      for trades, fixes of either kind and closes
--     on_trade_is, on_close_is        what holds of both results of `on_trade` or `on_close` holds of its result
-- Assumes nothing.
use mathlib.Core.Path.{◌≡◌, refl, sym, subst}
use Prim.Native.Nat.{ℕ}
use Rattle.calls.specs.declared.Trade.{Trade}
use Rattle.calls.specs.declared.Call.TheVariants as call
use Rattle.calls.specs.Calls.{on_trade, on_fix, on_final_fix, on_close}
use Rattle.calls.specs.declared.Call.{Call}

pub data TradeOr (c : Call) : Type 1 where
  trade : (t : Trade) → c ≡ call.Trade t → TradeOr c
  other : ((A : Type 0) (f : Trade → A) (o : A) → on_trade f o c ≡ o) → TradeOr c

pub data FixOr (c : Call) : Type 1 where
  fix : (set : ℕ) → c ≡ call.Fix set → FixOr c
  final_fix : (v : ℕ) → c ≡ call.FinalFix v → FixOr c
  other : ((A : Type 0) (f g : ℕ → A) (o : A) → on_fix f (on_final_fix g o c) c ≡ o) → FixOr c

pub data CloseOr (c : Call) : Type 1 where
  close : c ≡ call.Close → CloseOr c
  other : ((A : Type 0) (x o : A) → on_close x o c ≡ o) → CloseOr c

pub trade_or : (c : Call) → TradeOr c
trade_or (call.Quote m) = other (λ A f o. refl)
trade_or (call.Trade t) = trade t refl
trade_or call.Halt = other (λ A f o. refl)
trade_or call.Resume = other (λ A f o. refl)
trade_or (call.MinuteEnd u) = other (λ A f o. refl)
trade_or (call.Fix set) = other (λ A f o. refl)
trade_or call.Close = other (λ A f o. refl)
trade_or (call.DayLength l) = other (λ A f o. refl)
trade_or (call.TimedQuote q) = other (λ A f o. refl)
trade_or (call.FinalDate m) = other (λ A f o. refl)
trade_or (call.FinalFix v) = other (λ A f o. refl)

pub fix_or : (c : Call) → FixOr c
fix_or (call.Quote m) = other (λ A f g o. refl)
fix_or (call.Trade t) = other (λ A f g o. refl)
fix_or call.Halt = other (λ A f g o. refl)
fix_or call.Resume = other (λ A f g o. refl)
fix_or (call.MinuteEnd u) = other (λ A f g o. refl)
fix_or (call.Fix set) = fix set refl
fix_or call.Close = other (λ A f g o. refl)
fix_or (call.DayLength l) = other (λ A f g o. refl)
fix_or (call.TimedQuote q) = other (λ A f g o. refl)
fix_or (call.FinalDate m) = other (λ A f g o. refl)
fix_or (call.FinalFix v) = final_fix v refl

pub close_or : (c : Call) → CloseOr c
close_or (call.Quote m) = other (λ A x o. refl)
close_or (call.Trade t) = other (λ A x o. refl)
close_or call.Halt = other (λ A x o. refl)
close_or call.Resume = other (λ A x o. refl)
close_or (call.MinuteEnd u) = other (λ A x o. refl)
close_or (call.Fix set) = other (λ A x o. refl)
close_or call.Close = close refl
close_or (call.DayLength l) = other (λ A x o. refl)
close_or (call.TimedQuote q) = other (λ A x o. refl)
close_or (call.FinalDate m) = other (λ A x o. refl)
close_or (call.FinalFix v) = other (λ A x o. refl)

module _ {A : Type 0} (P : A → Type 0) where
  pub on_trade_is : (f : Trade → A) (o : A) (c : Call) → ((t : Trade) → c ≡ call.Trade t → P (f t)) → P o → P (on_trade f o c)
  on_trade_is f o c hf ho = by (trade_or c)
    where
      by : TradeOr c → P (on_trade f o c)
      by (trade t e) = subst (λ (c : Call). P (on_trade f o c)) (sym e) (hf t e)
      by (other h) = subst P (sym (h A f o)) ho

  pub on_close_is : (x o : A) (c : Call) → (c ≡ call.Close → P x) → P o → P (on_close x o c)
  on_close_is x o c hx ho = by (close_or c)
    where
      by : CloseOr c → P (on_close x o c)
      by (close e) = subst (λ (c : Call). P (on_close x o c)) (sym e) (hx e)
      by (other h) = subst P (sym (h A x o)) ho
