-- The laws of the definitions in specs/, in the order in which they rest on each other.

-- members by their places (`member_at`, `place_of`), and of ++, map and flat_map (`in-append`, `in-map`, `in-flat_map`)
pub mod Members
-- what stands at each place of a list, and of lists one behind the other: `same_places`, `flat_map_at`
pub mod Places
-- two rising lists with the same members begin alike
pub mod Heads
-- two rising lists with the same members are equal (`same_members`): every "equals the definition" of later crates goes by this
pub mod Rising
-- a list from its last member to its first has the same members (`in-reverse`), and rises the other way (`Rising-reverse`)
pub mod Reverse
-- a list kept by a test has just the members that pass, and rises if the list does: `in-keep`, `Rising-keep`
pub mod Keep
-- a test put to every member says the same in any order of the list (`every_permuted`)
pub mod Permutation
-- the list of f 0, f 1, ..: `in-table`, `table_at`, and two that agree (`same_table`)
pub mod Table
-- how many numbers below n pass a test, counted one by one
pub mod Counting
-- a pass over an array, place by place: filled up to a place (`Filled`), changed up to a place (`Passed`)
pub mod ArrayPass
-- the range from lo to hi has just the whole numbers between them, and rises: `in-range`, `Rising-range`
pub mod Range
-- lexicographic order is a strict total order on lists of one length: `Lower-asym`, `Lower-trans`, `compared`
pub mod Lexicographic
-- the first best is a member and beats every other (`first_best_lem`), and is the only one that does (`Best-unique`, `is_best_of`)
pub mod Best
-- sums, and the same sum label by label (`regroup`)
pub mod Sums
-- of the kit's `map` and `flat_map`: what one computation over a whole table says of each entry (`same_values`), and parts that
-- agree
pub mod Maps
-- the laws put to use
pub mod Examples
