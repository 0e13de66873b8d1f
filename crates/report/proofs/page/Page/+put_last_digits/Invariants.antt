-- The measure of `put_last_digits` is the count.
use Rattle.report.proofs.page.Page.+put_last_digits.Given as goal

abbrev pub decreases-put_last_digits : goal.decreases-put_last_digits
decreases-put_last_digits l = l.count
