-- Lemmas on this crate's words that the crates above cite.
use Rattle.json_form.proofs.TakenOut.{has_after, required_after, member_after, optional_after, part_after}
-- the tokens of an array, item by item
pub use Rattle.json_form.proofs.WrittenTokens.{each_written, array_written}
-- what a reading did that gave a value, one step after the other
pub use Rattle.json_form.proofs.Readings.{after, given, ok_is, within_ok, passed, part_read, member_read, optional_keeps, new_key}
-- the items of an array that was read: how many, and what they keep to
pub use Rattle.json_form.proofs.Readings.{each_keeps, each_long, ReadArray, read_array, all_push, all_read}
-- items whose keys were new at their turns have different keys, and keep to what each of them does
pub use Rattle.json_form.proofs.DistinctKeys.{distinct_read, distinct_all}
-- both sides of a conjunction of tests
pub use Rattle.json_form.proofs.Readings.{first_true, second_true, both_true}
-- values, items and members that are read one after the other from the tokens of a text
pub use Rattle.json_form.proofs.Ahead.{member_turn, members_over, begun, whole_read}
-- items of a fixed form, and items whose number is told, that are read one after the other
pub use Rattle.json_form.proofs.Ahead.{read_ahead, one_read, none_left, exact_read, array_read}
-- a text, an object, an array's bracket, and a value that was passed
pub use Rattle.json_form.proofs.Ahead.{string_ahead, object_ahead, bracket_ahead, begins_with}
-- items that are passed one after the other: one more of them, their end, and those that were kept
pub use Rattle.json_form.proofs.Ahead.{item_turn, items_over, items_before, items_before-no_items, one_more_item}
-- a number is what its token is, and one of 64 bits with a sign is read as itself
pub use Rattle.json_form.proofs.NumbersAhead.{number_ahead, integer_read}
-- a name, and the end of an object, leave fewer tokens
pub use Rattle.json.proofs.Grammar.{read_key-shorter}
-- parts of which a value of the form is made, by how deep it nests
pub use Rattle.json_form.proofs.Shapes.{levels, integer_form, items_form, items_joined}
-- a number of 64 bits is what its text is read as
pub use Rattle.json_form.proofs.ShortNumbers.{number_back}
-- what stands in an object once a member was put there
pub use Rattle.json_form.proofs.PutThere.{named_put, without_put, without_other, known_put}
-- what bytes spell that are UTF-8
pub use Rattle.json_form.proofs.Utf8.{is_json}

-- a member or an item that was taken out changes nothing for the others
pub ruleset others_stay = (has_after, required_after, member_after, optional_after, part_after)
