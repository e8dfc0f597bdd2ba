-- What falls at each call of `numbers::print::put_digits` within it: the number.
use Rattle.numbers.proofs.print.+put_digits.Given as goal

abbrev pub decreases-put_digits : goal.decreases-put_digits
decreases-put_digits l = l.v
