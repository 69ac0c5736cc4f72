-- The laws of the crate that the layer above cites, gathered. Assumes nothing.
--     passed              a test that holds is true
--     constructed_octet, constructed_bit_lem    bit 6 of the identifier says that the content is a list of elements
--     known_allowed       a test of an identifier's octet (`known`), for tables: what it takes is allowed
--     shortest_small, shortest_one, shortest_two    the length octets of a number below 128, 256 and 65,536
--     value_none, value_more, value_last    the number that no octets give, an octet and those after it, and the last octet
--     value_below         octets are digits to the base 256
--     value_large         three length octets or more, the first not 00, give 65,536 or more
--     integer_some        an INTEGER has at least one octet
--     head_fits           a header has at least two octets, and it and its content fit
--     head_encoded        the header of an encoding is read back, whatever comes after the element
--     head_octets         what is read as a header and its content is their encoding
--     InOrder             an element's places lie in order: its first byte, its content, its end, its parent's end
--     read_in_order       if there is an octet, an element is read in order
--     read_at             in an input that is not too long, an element is read from the octets up to its parent's end
--     read_at_in_order    by places: an element is read in order
--     read_at_end         after its parent's end none is read; its identifier is 0 (`nothing_identifier`)
--     read_at_within      by places, whether one is read or none: content and end lie in order between them
--     read_exact          an element is read exactly if its header and content stand at the place (`ReadAs`, `Standing`)
--     read_tree           where the encoding of a well-formed tree stands, its first element is read
--     read_moved          octets further on are read as the same element, further on (`further`)
--     tree_end            no octets are read as no elements
--     tree_enough         with at least as many levels and siblings as octets, `tree_of` is the tree
--     tree_step           if there is an octet, the tree is the element that is read there (`element_at`) and the tree after it
--     tree_parts          the same if the element, its content and the octets after it are known
--     tree_at             by places: the tree from p to e is the element that is read at p and the tree from its end to e
--     tree_encoded        the encoding of an element, and octets after it, are read as that element and those octets
--     tree_encode         the encoding of well-formed elements is read as them
--     tree_moved          octets further on are read as the same elements, further on (`moved`)
--     alike_moved         elements further on are alike (`Alike`), the same but for their places; alike elements have the same encoding
--                         (`encode_alike`)
--     encode_moved        so elements further on have the same encoding
--     alike_placed        elements that are placed anywhere, one after the other (`placed`, `placed_none`, `placed_element`), are alike
--     well_formed_placed  well-formed elements are well-formed at any place, and so is an element (`formed_placed`)
--     placed_further      elements that are placed and moved are placed further on
--     placed_there        well-formed elements that are placed where they stand stay as they are; `inside_there` of what is inside one
--     placed_moved        so well-formed elements that are placed further on are moved
--     well_formed_moved   and well-formed further on
--     header_some         a header has at least one octet, and even two (`header_two`): the identifier and the shortest length (`header_octets`,
--                         `length_some`)
--     header_grows        a longer content has no shorter header
--     header_same         an element's octets determine how long its header is
--     encode_none, encode_element, encode_length    the encoding of no elements, and of an element and those after it, with its length
--     moved_none, moved_element      no elements further on, and an element and those after it
--     well_formed_none, well_formed_deep    no elements are well-formed; an element is not without a level of depth left
--     well_formed_element    with one left, well-formed elements are a first one and those after it
--     single_none, single_element    a single element has none after it
--     sequence_constructed, sequence_allowed    the identifier 30; `integer_primitive` the identifier 02
--     exact               a whole input's first element ends at e exactly if the octets up to e are an encoding (`Encoded`)
--     walk_tree           the same of the tree that is read from those octets (`Checked`)
--     number_zero         the input's number is 0 exactly if it starts with an encoding
--     fault_number        a fault's number is from 2 to 6
--     number_place        its number, if not 0, and its place are those of the first fault
--     number_one          its number is 1 exactly if the input is too long
--     walk_fault          the walk over an input answers a fault exactly if it is the first (`First`)
--     first_single        an element has one first fault; of a whole input `one_fault`, from 2 to 6 (`first_number`)
--     one_end             an input begins with one encoding
--     fault_or_encoded    it begins with an encoding or has a first fault, and never both (`fault_unencoded`)
--     walk_end_at, walk_fault_at    exactness by places: from any place to any end (`EncodedAt`)
--     explained_walk      an answer that `Explains` relates is the walk's, and conversely (`walk_explained`)
--     span_fits           a span has at least two octets, and it and its content fit
--     span_exact          octets have a span exactly if they begin with a header, of any identifier, and its content (`Measures`, `Begins`)
--     span_small          a content of fewer than 128 octets has two octets before it
--     span_stands, span_broken    after an identifier that is allowed a span is the header; without a span the header is broken
--     span_tree           the tree of octets that begin with a span, after an identifier that is allowed
--     found_none          the code's answer of a span (`found_span`) is none if the octets have none
--     found_some, found_one, found_fits    otherwise it is theirs, which has octets before its content, and fits
--     is_list_none, is_list_deep, is_list_lost    no octets are a list; others are none without a level of depth left or a span at the start
--     is_list_exact       octets are a list exactly if they are not too many and the encoding of a well-formed tree (`ListEncoded`)
--     is_element_exact    an identifier and a content are an element exactly if that is well-formed (`OneFormed`)
--     is_list_short       a list is not too long
--     is_list_step        octets are a list if the first element has no fault and the octets after it are a list
--     is_list_single      the walk over an input that is a list of one element ends where the input does
--     single_is_list      an input whose first element ends where the input does is a list
--     is_element_refused, is_element_inside, is_element_value    an element has no fault if its identifier is allowed and
--                         the list inside it, or its content, has none, and it keeps the rule at its end
--     sets_ascend         in well-formed elements every SET ascends, at any depth (`EverySetAscends`)
--     walk_soonest        the walk over an input answers a fault exactly if it is decided first of all
--     some_refusal        no refusal has the number of an acceptance
--     closes_free         only a SET has a rule at its end, and a SEQUENCE has none (`sequence_closing`)
--     closes_one          one element alone keeps it
--     holds_integer, holds_bit_string, holds_object_identifier, holds_utf8    the rule that an identifier asks of its content
--     holds_free          an identifier that asks none (`ruled`) leaves the content free
--     octets_each, octets_at    octets are numbers below 256
--     octets_none, octets_more, octets_append    no octets, one before others, and octets after octets
--     octets_rest, octets_take, octets_drop    a part of octets is octets
--     take_drop, slice_slice, drop_slice, slice_middle    a part of a part of a list, by the places in the whole
--     slice_size          how many a part has; one that starts at its end or after it is empty (`slice_none`)
--     append_parts        lists whose first parts have one length are equal only part by part
--     take_from, take_slice    the part from a place on, and from a place to another, as a lent slice gives them
pub use Rattle.der.proofs.theorems.lists.Parts.{octets_each, octets_at, octets_none, octets_more, octets_append, octets_rest, octets_take, octets_drop, take_drop, slice_size, slice_slice, drop_slice, slice_middle, slice_none, take_from, take_slice, append_parts}
pub use Rattle.der.proofs.theorems.element.Length.{value_none, value_more, value_last, value_below, shortest_small, shortest_one, shortest_two, value_large}
pub use Rattle.der.proofs.theorems.content.ContentRules.{integer_some}
pub use Rattle.der.proofs.theorems.element.Identifiers.{constructed_octet, constructed_bit_lem, sequence_constructed, integer_primitive, known, known_allowed, sequence_allowed}
pub use Rattle.der.proofs.theorems.element.Headers.{passed, head_fits, head_encoded, head_octets}
pub use Rattle.der.proofs.theorems.reading.Readings.{InOrder, read_in_order, read_at, read_at_end, nothing_identifier, read_at_in_order, read_at_within, further, read_moved, tree_end, tree_enough}
pub use Rattle.der.proofs.theorems.reading.Readings.{element_at, tree_step, tree_parts, tree_at, tree_encoded, tree_encode, tree_moved}
pub use Rattle.der.proofs.theorems.reading.Placing.{Alike, alike_none, alike_element, encode_alike, alike_moved, encode_moved, placed, placed_none, placed_element, alike_placed, formed_placed, well_formed_placed, placed_further, inside_there, placed_there, placed_moved, well_formed_moved}
pub use Rattle.der.proofs.theorems.reading.Trees.{header_some, header_two, header_octets, header_grows, header_same, length_some, encode_none, encode_element, encode_length, moved_none, moved_element}
pub use Rattle.der.proofs.theorems.reading.Trees.{well_formed_none, well_formed_deep, well_formed_element, single_none, single_element}
pub use Rattle.der.proofs.theorems.explain.Exact.{Encoded, exact, Checked, walk_tree}
pub use Rattle.der.proofs.theorems.explain.FirstFault.{number_zero, fault_number, number_place, walk_fault}
pub use Rattle.der.proofs.theorems.explain.OneFault.{number_one, first_single, one_fault, first_number, one_end, fault_or_encoded, fault_unencoded}
pub use Rattle.der.proofs.theorems.explain.Explained.{walk_explained, explained_walk}
pub use Rattle.der.proofs.theorems.explain.AnyPlace.{EncodedAt, walk_end_at, walk_fault_at}
pub use Rattle.der.proofs.theorems.reading.ReadElements.{Standing, ReadAs, read_exact, read_tree}
pub use Rattle.der.proofs.theorems.element.MeasuredElements.{Begins, Measures, span_exact}
pub use Rattle.der.proofs.theorems.element.Spans.{span_fits, span_small, span_stands, span_broken, span_tree, found_none, found_some, found_one, found_fits}
pub use Rattle.der.proofs.theorems.recognise.Recognising.{is_list_none, is_list_short, is_list_deep, is_list_lost, is_list_step, is_list_single, single_is_list, is_element_refused, is_element_inside, is_element_value}
pub use Rattle.der.proofs.theorems.recognise.Recognising.{holds_integer, holds_bit_string, holds_object_identifier, holds_utf8, ruled, holds_free}
pub use Rattle.der.proofs.theorems.closing.Closing.{sequence_closing, closes_free, closes_one}
pub use Rattle.der.proofs.theorems.closing.SetsAscend.{EverySetAscends, sets_ascend}
pub use Rattle.der.proofs.theorems.explain.SoonestFault.{walk_soonest}
pub use Rattle.der.proofs.theorems.explain.Refusals.{some_refusal}
pub use Rattle.der.proofs.theorems.recognise.RecognisedTrees.{ListEncoded, is_list_exact, OneFormed, is_element_exact}
