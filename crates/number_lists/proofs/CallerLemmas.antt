-- What other crates may cite of the proofs here. The words In, here and there stand in specs/Members.

-- ---- tests

-- the parts of two tests that hold together
pub use Rattle.number_lists.proofs.Members.{and-left, and-right, same_bool}
-- ---- members of lists

-- the first element or one that follows; std's Contains and back
pub use Rattle.number_lists.proofs.Members.{In-cases, In-Contains, Contains-In}
-- members of a filtered list: they are there where they pass, they pass, and they are members of the list
pub use Rattle.number_lists.proofs.Members.{In-filter, filter-In, In-inside}
-- a test over a list: some member passes, none does, all do
pub use Rattle.number_lists.proofs.Members.{any-In, any-some, any-none, none-In, all-In, In-all}
-- members of two lists joined, of a list with one element more, and of a list reversed
pub use Rattle.number_lists.proofs.Members.{In-left, In-right, append-In, push-In, In-last, In-reverse, reverse-In}
-- members by their places
pub use Rattle.number_lists.proofs.Members.{In-at, at-In}
-- members of a mapped list, and of lists joined
pub use Rattle.number_lists.proofs.Members.{In-map, map-In, In-flat_map, flat_map-In}
-- the test for members of a list of numbers, by In and by std's Contains
pub use Rattle.number_lists.proofs.Members.{holds-In, In-holds}
pub use Rattle.number_lists.proofs.Increasing.{holds-Contains, Contains-holds, same_holds}
-- the numbers from a on, and those from 1 to n
pub use Rattle.number_lists.proofs.Members.{In-range, range-In, In-upto, upto-In}
-- ---- lists without repetition

-- what they are, and that they stay so under filters, joins and maps that keep elements apart
pub use Rattle.number_lists.proofs.Distinct.{AreDistinct, none, more, distinct-filter, distinct-at, distinct-append, distinct-map, distinct-flat_map, distinct-range}
-- ---- increasing lists of numbers

-- the numbers from a on
pub use Rattle.number_lists.proofs.Increasing.{increasing-range}
-- the numbers from 1 to n
pub use Rattle.number_lists.proofs.Increasing.{length-upto, get_or-upto, upto_more, All-upto, holds-upto, increasing-upto, set-map-upto}
-- the first number is below the others, and these increase too
pub use Rattle.number_lists.proofs.Increasing.{increasing_head, increasing_tail}
-- a number is not among those before it, and stands at one place, once
pub use Rattle.number_lists.proofs.Increasing.{holds-before, increasing-once, count-increasing, distinct_rising}
-- increasing lists with the same members are the same; one with the members of a test is the filter of 1 to n
pub use Rattle.number_lists.proofs.Increasing.{same_increasing, members_sorted}
-- which numbers are in a list: in no such list, in one number more, in a filtered list
pub use Rattle.number_lists.proofs.Increasing.{holds-none, holds_more, holds-filter}
-- tests that agree at the elements of a list; a filtered list is no longer
pub use Rattle.number_lists.proofs.Increasing.{filter_same, length-filter-le}
-- ---- lists of any type

-- maps by functions that agree
pub use Rattle.number_lists.proofs.Mapped.{map_agree, flat_map_agree}
-- maps, filters, tests and joins one after another; a map of the numbers below a sum
pub use Rattle.number_lists.proofs.Mapped.{filter-map, list_any-map, flat_map-flat_map, map-flat_map, filter-flat_map, map-range_with_len_add}
-- pairs of two lists joined
pub use Rattle.number_lists.proofs.Mapped.{AllPairs-append}
-- a list before and after an element that was read
pub use Rattle.number_lists.proofs.Mapped.{take-slice_get, split-slice_get}
-- ---- which lists hold a number

-- one list more
pub use Rattle.number_lists.proofs.Counting.{cells_with-push}
-- ---- numbers that were found

-- one more, or all of these more: what stays, what is new, and where it stands
pub use Rattle.number_lists.proofs.Inserted.{IsMore, is_more, AreMore, are_more, inserted_all-append, inserted_all-push}
-- lists of different numbers: one more, and one inside another
pub use Rattle.number_lists.proofs.Marked.{any-holds, holds-push, length-inside}
-- what stands at some numbers, counted from 1, is changed in the same way
pub use Rattle.number_lists.proofs.Touch.{IsTouched, touch-fresh, touch-more, touch-all}
-- ---- what steps lead to

-- the test tells whether steps lead there
pub use Rattle.number_lists.proofs.Reach.{reaches_is}
