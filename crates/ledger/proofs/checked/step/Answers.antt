-- A call on a book within its limits, call by call.
use mathlib.Core.Path.{refl}
use Rattle.ledger.specs.Effects.{effect}
use Rattle.ledger.proofs.Lent.{tradable, figures_held, fixable, closable, on_figures, trade-answered, close-answered}
use Rattle.ledger.proofs.checked.step.Goals as goal

pub trade-requires : goal.trade-requires
trade-requires c = tradable _ c.requires c.in-Trade.trade

pub minute_end-requires : goal.minute_end-requires
minute_end-requires c = figures_held _ c.requires

pub timed_quote-requires : goal.timed_quote-requires
timed_quote-requires c = figures_held _ c.requires

pub fix-requires : goal.fix-requires
fix-requires c = fixable _ c.requires

pub final_fix-requires : goal.final_fix-requires
final_fix-requires c = (fixable _ c.requires).size

pub close-requires : goal.close-requires
close-requires c = closable _ c.requires

pub returns-in-Quote : goal.returns-in-Quote
unfolding effect
returns-in-Quote c = on_figures c.requires c.in-Quote.is _ refl refl c.quote.ensures

pub returns-in-Halt : goal.returns-in-Halt
unfolding effect
returns-in-Halt c = on_figures c.requires c.in-Halt.is _ refl refl c.halt.ensures

pub returns-in-Resume : goal.returns-in-Resume
unfolding effect
returns-in-Resume c = on_figures c.requires c.in-Resume.is _ refl refl c.resume.ensures

pub returns-in-MinuteEnd : goal.returns-in-MinuteEnd
unfolding effect
returns-in-MinuteEnd c = on_figures c.requires c.in-MinuteEnd.is _ refl refl c.minute_end.ensures

pub returns-in-Fix : goal.returns-in-Fix
unfolding effect
returns-in-Fix c = on_figures c.requires c.in-Fix.is _ refl refl c.fix.ensures

pub returns-in-DayLength : goal.returns-in-DayLength
unfolding effect
returns-in-DayLength c = on_figures c.requires c.in-DayLength.is _ refl refl c.day_length.ensures

pub returns-in-TimedQuote : goal.returns-in-TimedQuote
unfolding effect
returns-in-TimedQuote c = on_figures c.requires c.in-TimedQuote.is _ refl refl c.timed_quote.ensures

pub returns-in-FinalDate : goal.returns-in-FinalDate
unfolding effect
returns-in-FinalDate c = on_figures c.requires c.in-FinalDate.is _ refl refl c.final_date.ensures

pub returns-in-FinalFix : goal.returns-in-FinalFix
unfolding effect
returns-in-FinalFix c = on_figures c.requires c.in-FinalFix.is _ refl refl c.final_fix.ensures

pub returns-in-Trade : goal.returns-in-Trade
returns-in-Trade c = trade-answered c.requires c.in-Trade.is c.trade.ensures

pub returns-in-Close : goal.returns-in-Close
returns-in-Close c = close-answered c.requires c.in-Close.is c.close.ensures
