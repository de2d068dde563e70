-- The limits of queries and assertions, each named once. Assumes nothing.
use Rattle.std.specs.Prelude.{ℕ, ◌+◌, ◌*◌}

-- "At most 65,535 bytes"
abbrev pub most_record : ℕ
most_record = 65535

-- "compliance values, 2 to 16, weakest first: length 1 to 64"
abbrev pub least_values : ℕ
least_values = 2

abbrev pub most_values : ℕ
most_values = 16

abbrev pub least_value : ℕ
least_value = 1

abbrev pub most_value : ℕ
most_value = 64

-- "requesters, 1 to 8: length 1 to 256"
abbrev pub least_requesters : ℕ
least_requesters = 1

abbrev pub most_requesters : ℕ
most_requesters = 8

abbrev pub least_requester : ℕ
least_requester = 1

abbrev pub most_requester : ℕ
most_requester = 256

-- "attributes, 0 to 32: name length 1 to 2,048, name, value length 0 to 2,048, value"
abbrev pub least_attributes : ℕ
least_attributes = 0

abbrev pub most_attributes : ℕ
most_attributes = 32

abbrev pub least_name : ℕ
least_name = 1

abbrev pub most_name : ℕ
most_name = 2048

abbrev pub least_setting : ℕ
least_setting = 0

abbrev pub most_setting : ℕ
most_setting = 2048

-- "assertions, 0 to 200: a standing byte, length 1 to 8,192, text"
abbrev pub least_assertions : ℕ
least_assertions = 0

abbrev pub most_assertions : ℕ
most_assertions = 200

abbrev pub least_text : ℕ
least_text = 1

abbrev pub most_text : ℕ
most_text = 8192

-- "0 unverified, 1 local, 2 verified credential"
abbrev pub most_standing : ℕ
most_standing = 2

-- "16 licensee occurrences"
abbrev pub most_licensees : ℕ
most_licensees = 16

-- "16 constants"
abbrev pub most_constants : ℕ
most_constants = 16

-- "16 brackets open"
abbrev pub most_brackets : ℕ
most_brackets = 16

-- "16 prefix operators in a row"
abbrev pub most_prefixes : ℕ
most_prefixes = 16

-- "Literals [..] of at most 18 digits", which is 19 bytes with the point
abbrev pub most_float : ℕ
most_float = 19

-- "literal 2,048 decoded bytes"
abbrev pub most_literal : ℕ
most_literal = 2048

-- "string over 4,096 bytes" is a fault
abbrev pub most_string : ℕ
most_string = 4096

-- "principal identifier 1 to 256 bytes"
abbrev pub most_identifier : ℕ
most_identifier = 256

-- ---- what follows from them

-- items of all four groups together
abbrev pub most_items : ℕ
most_items = most_values + most_requesters + most_attributes + most_assertions

-- the report: 3 bytes, and 3 for each assertion
abbrev pub most_report : ℕ
most_report = 3 + 3 * most_assertions

-- the reach: POLICY and the licensees
abbrev pub most_reached : ℕ
most_reached = 1 + most_assertions * most_licensees

-- those who ask: POLICY stands first in the index, then the requesters
abbrev pub most_asking : ℕ
most_asking = 1 + most_requesters

-- those an assertion names: its authorizer and its licensees
abbrev pub most_named : ℕ
most_named = 1 + most_licensees

abbrev pub most_principals : ℕ
most_principals = most_asking + most_assertions * most_named

-- an identifier behind its two-byte length, and all of them
abbrev pub most_counted : ℕ
most_counted = 2 + most_identifier

abbrev pub most_pool : ℕ
most_pool = most_principals * most_counted

-- those of an assertion
abbrev pub most_entered : ℕ
most_entered = most_named * most_counted

-- the principals that the index can number: as many, of 256 bytes each, keep every place in its pool below 2 ^ 20 and every number below 2 ^ 12
abbrev pub most_numbers : ℕ
most_numbers = 4064

-- the instructions of a field Licensees, and of all of them
abbrev pub most_code : ℕ
most_code = 3 * most_licensees

abbrev pub most_programs : ℕ
most_programs = most_assertions * most_code

-- the joined compliance values and the joined requesters, a comma for each and two bytes for a length
abbrev pub most_values_joined : ℕ
most_values_joined = most_values * (most_value + 1)

abbrev pub most_requesters_joined : ℕ
most_requesters_joined = most_requesters * (most_requester + 1)

abbrev pub most_joined : ℕ
most_joined = 2 + most_values_joined + 2 + most_requesters_joined

-- the lengths of the constants' names and values, two bytes each
abbrev pub most_lengths : ℕ
most_lengths = 4 * most_constants

-- the joined texts, and the constants of a text
abbrev pub most_consts : ℕ
most_consts = most_joined + most_lengths + most_text
