-- `posix::claim_of` meets its promise.
use Rattle.posix.proofs.One.{type_is_word, sum_fits_again, sum_again_is_word, start_is_word, claimed_back, claimed_to_the_end, claimed_on}
use Rattle.posix.proofs.claim_of.Goals as goal

pub word-start-requires : goal.word-start-requires
word-start-requires c = search start_is_word

pub overflow_add-one : goal.overflow_add-one
overflow_add-one c = search sum_fits_again

pub word-other-requires : goal.word-other-requires
word-other-requires c = search sum_again_is_word

pub word-kind-requires : goal.word-kind-requires
word-kind-requires c = search type_is_word

pub returns-in-minus9223372036854775808-to-minus1 : goal.returns-in-minus9223372036854775808-to-minus1
returns-in-minus9223372036854775808-to-minus1 c = search claimed_back

pub returns-in-0 : goal.returns-in-0
returns-in-0 c = search claimed_to_the_end

pub returns-in-1-to-9223372036854775807 : goal.returns-in-1-to-9223372036854775807
returns-in-1-to-9223372036854775807 c = search claimed_on
