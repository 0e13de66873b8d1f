-- The measure of `put_decimal` is the number, which falls as it is divided by ten.
use Rattle.report.proofs.page.Page.+put_decimal.Given as goal

abbrev pub decreases-put_decimal : goal.decreases-put_decimal
decreases-put_decimal l = l.number
