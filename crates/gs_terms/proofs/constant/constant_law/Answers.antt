use Rattle.std.proofs.lemmas.Int.{quot-rem, rem_below}
use Rattle.gs_terms.proofs.ConstantLaws.{exact_fits, exact_wide, toward_zero, floor_low, floor_high, bit_of_and, bit_of_or, bit_of_xor, bit_of_and_not}
use Rattle.gs_terms.proofs.constant.constant_law.Goals as goal

pub returns-clause-fits : goal.returns-clause-fits
returns-clause-fits c z f = exact_fits z f

pub returns-clause-wide : goal.returns-clause-wide
returns-clause-wide c z h f = exact_wide z h f

pub returns-clause-division : goal.returns-clause-division
returns-clause-division c x y = quot-rem x y

pub returns-clause-toward_zero : goal.returns-clause-toward_zero
returns-clause-toward_zero c x y = toward_zero x y

pub returns-clause-remainder : goal.returns-clause-remainder
returns-clause-remainder c x y h = rem_below x y h

pub returns-clause-not_above : goal.returns-clause-not_above
returns-clause-not_above c x m h = floor_low x m h

pub returns-clause-greatest : goal.returns-clause-greatest
returns-clause-greatest c x m h = floor_high x m h

pub returns-clause-bits_and : goal.returns-clause-bits_and
returns-clause-bits_and c x y k f g = bit_of_and x y k f g

pub returns-clause-bits_or : goal.returns-clause-bits_or
returns-clause-bits_or c x y k f g = bit_of_or x y k f g

pub returns-clause-bits_xor : goal.returns-clause-bits_xor
returns-clause-bits_xor c x y k f g = bit_of_xor x y k f g

pub returns-clause-bits_and_not : goal.returns-clause-bits_and_not
returns-clause-bits_and_not c x y k f g = bit_of_and_not x y k f g
