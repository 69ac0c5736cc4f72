-- The laws of the crate that the layers above cite, gathered. Assumes nothing.
--     accepts             the walk over a container passes exactly when its parts describe the elements, whichever forms may be read
--     stops_exactly       the walk breaks at a place with a detail exactly where the meaning says that the reading stops (`Stops`), whichever forms may be
--                         read; it never stops twice (`stops_once`), and it stops exactly where the grammar doesn't describe the elements (`stops_outside`)
--     passes_accepts      `passes` says whether the walk that reads every form (`all`) passes; `is_passed` says so of a walk's answer (`walk_passes_lem`)
--     deterministic       from any part of a container on (`_followedBy_`), an identifier has at most one of the choices (`choices`) that can be reached
--     trail_occurrences   the forms of one edition alone that the walk meets are those that the grammar's meaning gives, in that order
--     walk_seen           what the walk has met of an edition (`first_seen`, `seen_of`) is the first of its trail, unless one was known (`after`)
--     marks_met           so it is the first that the meaning gives
--     forms_exactly       which is the first in byte order (`FirstForm`)
--     trail_ascends       in well-formed elements the places of a trail ascend (`Ascends`), so the first is the least (`ascends_least`)
--     occurrences_ascend  and so do those that the meaning gives
--     first_least         so the first form whose edition a test takes (`first_of`) has the least place of all such forms
--     own_walk_lem            a walk with any set of readable forms answers the same as the walk that reads every form, or breaks at the first form of its
--                         trail that it doesn't read (`Follows`, `unread`)
--     two_sets            if a walk with one set passes, a walk with another answers the same, or breaks at the first form that it doesn't read
--     own_alike           the walk of one edition (`Edition`) answers the same as the walk that reads every form, if that has met no form of the other
--                         edition (`other`, `foreign`)
--     own_stops           and otherwise it breaks at the first such form, with the detail of that form
--     own_passes          so it passes exactly when that passes and has met none
--     own_difference      every difference that occurs in a tree of one edition's grammar is that edition's own
--     other_walk          so the other edition's walk answers the same if none occurs, and otherwise stops at the first (`StopsAt`)
--     listed              every difference that occurs is on the list (`differences`), so its number is one of 1 to 4 (`numbered`), and a fourth is
--                         edition 1's (`fourth_first`); each on the list is the mark that some form's marking gives (`listed_marks`)
--     forwards_exactly    A12: a validity's octets run forwards exactly if its elements do (`Forwards`)
--     times_shown         each row of notBefore or notAfter of a batch shows a moment; they are leaves (`time_leaf`)
--     validities_forwards each row of a validity runs forwards
--     fourth_exactly      a fourth difference (`fourth`) occurs exactly where a row shows a field that edition 2 has left out (`LeftOut`); rows that
--                         show the same pieces show the same such fields (`left_out_too`)
--     inside_starts       every inside of the table is free or starts a container
--     start_lives         where a container starts, it may end or an element is found (`Lives`)
--     onward_lives        and so it is after every element
--     ways_lines          a value that selects has a line for each of its ways, and no more (`WayLines`)
--     ways_parts          and as many names in the grammar
--     kind_known          every row kind of the table is one of document 01's (`row_kinds`), and so is every item's (`item_known`); so each row of a
--                         batch has one of them (`row_known`)
--     kind_given          each of document 01's kinds is given by some line
--     rows_lines          the rows that are found by the lines are those of any derivation
--     rows_same           so two derivations of one tree have the same rows, whichever forms each may read
--     rows_count          the counting walk's count is the number of rows; `walk_counts` says so of any derivation's rows
--     row_zero            row 0 is the batch: kind 1, from byte 0 on, of its whole length, its own parent, its content after its header
--                         (`first_header`); there is one (`rows_some`)
--     rows_ascend         rows ascend strictly by first byte
--     row_parent          each other row's parent is an earlier row
--     parent_container    each row's parent is a container
--     row_within          each row's bytes lie within its parent's (`Inner`)
--     rows_nested         rows below a row come right after it: between a row and its parent are only rows whose parents come no earlier
--     kinds_ascend        in every container but controls and regInfo the kinds of the children ascend
--     row_content_lem         each row's fifth number is right (`RightContent`); where two rows point at the same octets and one is right, the other is
--                         exactly if both contents are equally far from the rows' first bytes (`content_same`, `content_right`)
--     matches_alike       some parts describe elements if they describe alike ones, at whatever places; so it is with elements that are moved by
--                         some bytes (`matches_moved`)
--     rows_moved          elements that are moved by some bytes have the same rows, moved (`moved_row`)
--     rows_renumbered     rows that come further down are the same rows, renumbered (`renumbered_row`)
--     short_append        rows after others have no long certReqId exactly if both have none (`short_both`); rows that are moved (`short_moved`) or
--                         renumbered (`short_renumbered`) have none exactly if the rows have none
--     batch_rows_of_messages    the rows of a batch are row 0 (`batch_row`) and the rows of its messages' own fields (`own_fields`), one after the
--                         other (`rows_of_messages`, `rows_below`): of each its own row and the rows inside it (`message_rows`, `message_rows_lem`)
--     messages_rows_append    messages after others have their rows after theirs; moved ones have them moved (`messages_rows_moved`), and those
--                         that come further down have them renumbered (`messages_rows_renumbered`)
--     rows_pieces         the rows of elements that stand in some octets show the derivation's pieces (`pieces`) of them, one each (`pieces_length`)
--     batch_pieces        and so do the rows of a batch of its own octets
--     rows_of             filling finds the rows of any derivation of an accepted input, as many as counting answers (`rows_counted`)
--     filled_rows         with room for them the table holds these rows in its first numbers and keeps the others (`Holds`)
--     over_holds          so it is with any rows that are written over its first numbers
--     filled_short        and without room it stays as it is
--     filled_whole        so it is with the rows that the lines find in any input
--     packed_row          a batch's row is read back from the one number into which it is packed; there is one for each row (`packed_length`), its
--                         own (`packed_at`), and a table of as many numbers as an input has rows then has all of them (`packed_all`); the
--                         fields of any number are below their room (`fields_below`)
--     assembly            a batch is the assembly of the pieces that its rows show of it
--     rows_few            its rows are at most half as many as its octets
--     pieces_short        none of its pieces is longer than it
--     pieces_octets       the assembly of what rows show of octets is octets, if nothing is too long
--     row_ends            the rows of a batch lie within it, and so do its leaves (`rows_within_lem`)
--     rows_by_width       a draft has as many rows (`draft_rows`) as their width goes into its numbers, and the numbers of each (`rows_room`,
--                         `row_cut`); the numbers of rows are a draft with these rows (`rows_back`, `numbers_once`, `numbers_back`)
--     agree_in_place      rows that agree in place are the same; conversely, rows agree with themselves (`agree_itself`)
--     agreed_pieces       rows that agree, wherever their leaves stand, show the same pieces if the pieces' assemblies are the same; then the leaves
--                         of one are right if the rows of the other are (`agreed_right`); conversely, rows that show the same pieces agree, if all
--                         are right (`pieces_agree`)
--     agreed_both         an input agrees with a draft exactly if it is recognised and its rows agree (`agreed_all`)
--     batch_content       a batch is one element 30, whose content is its messages' octets, one after the other (`BatchContent`)
--     message_parts       each message consists of its certReq, proof and regInfo, and the certReq of its own fields (`MessageParts`)
--     messages_match      each message and its fields are what the grammar says of them (`MessageMatches`, `ProofMatches`); conversely, a batch around
--                         fields that match as messages is in the grammar (`batch_of_matches`) and well-formed (`batch_of_formed`)
--     messages_formed     each message is well-formed, one level of depth below the batch (`FormedField`)
--     messages_stand      each message and each of its fields stands at its place in the batch's octets (`MessageStands`)
--     messages_moved      the messages of elements that are moved by some bytes are the messages, moved
--     batch_octets_lem        the octets of a batch (`BatchTree`) are those of the batch of its messages, its content is theirs (`content_octets`), and
--                         they are as many as its header (`batch_header`) and its content have (`batch_length`)
--     batch_octets_left   the batch of some messages is no longer than one with others after them or before them (`batch_octets_right`)
--     batch_from_lem          any fields, at least one, that match as messages and are well-formed make a batch of them (`batch_from`, `BatchWith`)
--     joined_tree_lem         the messages of two batches make a batch (`joined_tree`); its messages (`joined_messages`) and the rows below its own
--                         (`joined_rows`) are those of the two, the first's moved by the growth of the header (`first_move`), the second's by the
--                         header and the first's content less their own header (`second_move`), their rows also renumbered; none of its rows is a
--                         long certReqId if none of theirs is (`joined_short`)
--     cut_tree_lem            a message of a batch makes a batch (`cut_tree`); its one message, moved forward (`cut_move`), is the message
--                         (`cut_message`), and none of its rows is a long certReqId if none of the batch's is (`cut_short`)
--     at_position         what is found at a position of a list is one of its entries, and the position is within it (`position_within`)
--     proof_child_stands  a field inside a message's proof stands at its place too
--     stands_part         a field that stands at its place lies within the bytes, and its octets are that part of them
--     fields_at           between two places of some bytes, the fields are the one that is read first (`field_at`) and those after it; from an end on
--                         there are none (`fields_end`); and if there is a first, it is that one (`fields_begin`, `Begins`)
--     inside_fields       the fields inside a constructed field are the ones between its content's first place and its end
--     first_with_none     the search for an identifier, field by field: `first_with_here`, `first_with_next`; what is found has it (`child_identified`)
--     batch_at            the input's one element is read at its first byte
--     messages_inside     its messages are those of the fields inside it, and each has its field as its own (`message_field`)
--     proof_cases         a proof's identifier is one of the four
--     sequence_read       inside a SEQUENCE that is read (`field_read`) the fields are those of its content
--     batch_read          so the messages of a batch are those of the fields that are read from its content on
--     position_there      from the place of the message at a position (`message_place`) on, the fields that are read begin with that message
--                         (`StandsThere`), whose octets they are (`message_read`); there is none if that place is the input's end (`position_missing`)
--     next_fields         what is read from a place on lies in order: `content_places`, `after_places`, `read_forward`, `next_in_order`
--     content_read        the octets that are read from a batch's content on are its content
--     id_read             and a message's certReqId is what is read first inside what is read first inside it (`IdRead`, `first_read`)
--     ids_some            a message's certReqId has at least one octet of content, and at most 8 if no row is a long one (`ids_eight`)
--     messages_few        a batch has at least two octets, and 9 more for each of its messages
--     rows_long           the certReqId of more than 8 content octets that the counting walk has met is the first row that is one
--     walk_long           and so it is with the rows of any derivation
--     long_none           if nothing was known, nothing is known exactly when no row is one
--     long_exactly        what is noted after a batch's rows is their first long certReqId in byte order (`FirstLongId`); there is none
--                         exactly if no row is one (`short_none`, `none_short`)
--     count_whole         if an input is not too long, counting is the walk over its tree that reads every form (`rows_whole` of rows)
--     whole_count         the rows that the lines find in it are as many as were counted
--     whole_long          and their first long certReqId is the one that was met
--     count_passes        counting passes with n rows exactly when the grammar, with every form, describes the tree and gives it n rows
--     count_stops         it breaks exactly where the reading of every form stops; `count_long`: an input that is too long breaks at 0
--     count_tallies       what it has tallied is the batch's rows, the first form of each edition alone and the first long certReqId (`Tallied`)
--     count_own           an edition's own reading stops where counting breaks, if no form of the other edition was met, and otherwise at the form
--                         that was met (`count_foreign`)
--     none_met            at first no form of the other edition was met
--     recognised_walk     an input that is recognised is one element, and counting passes with as many rows and nothing to refuse (`Quick`)
--     walk_recognised     conversely, one element that the edition's own walk passes is recognised, if no row is a long certReqId
--     unrecognised_stays  the recogniser leaves the table as it is if the input isn't recognised, and otherwise fills it (`recognised_fills`)
--     not_recognised      no input is both recognised and not
--     recognised_exact    for every edition number, an input is recognised with n rows exactly when it is a batch of the edition with n rows and no
--                         long certReqId (`ShortBatch`), and unrecognised exactly when it is none (`unrecognised_exact`); its rows are the
--                         derivation's (`batch_rows_lem`); the tree that is read from the encoding of a well-formed tree is that tree (`read_back`)
--     recognises_exactly  the recogniser's answer and the table afterwards are exactly what the meaning says (`Recognises`)
--     numbers_row         the definitions of rows' numbers and of pieces, one step at a time: `pieces_row`, `own_container`, `own_leaf`,
--                         `whole_container`, `whole_leaf`, `children_piece`, `assembled_piece`, `within_piece`; and if there is nothing,
--                         `numbers_none`, `pieces_none`, `children_none`, `assembled_none`, `within_none`
--     numbers_length      each row has `width` numbers
--     leaf_octets         the piece of a leaf has its octets
--     container_kinds     which kinds are containers', their identifiers (`identifier_of_lem`) and types (`implied_type`, `implied_none`)
--     children_bound      if no piece is longer than a limit, a piece's children have together at most the limit for each piece
--     same_more           two lists are compared by their first octets and one more; with none, `same_none`; of other lengths, `other_length`
--     same_octets         lists that compare as the same are the same, and a list compares as the same with itself (`same_itself`)
--     over_parts          what is written over a list stands between what was before its place and after its end
--     fits_room           there is room for rows if a table has `width` numbers for each
--     child_first         the first field inside a field with an identifier; and a field that may be missing, as a list (`listed_none`, `listed_some`)
pub use Rattle.crmf.proofs.theorems.explain.Accepts.{accepts}
pub use Rattle.crmf.proofs.theorems.explain.Stopping.{stops_exactly, stops_once, stops_outside}
pub use Rattle.crmf.proofs.theorems.explain.EveryForm.{all, is_passed, walk_passes_lem, passes_accepts}
pub use Rattle.crmf.proofs.theorems.grammar.Choices.{Choice, taking, choosing, identifiers_of, choices, ◌followed_by◌, deterministic, ways_parts}
pub use Rattle.crmf.proofs.theorems.editions.FirstSeen.{Edition, first_edition, second_edition, first_seen, after, seen_of, walk_seen}
pub use Rattle.crmf.proofs.theorems.editions.ListedDifferences.{listed, numbered, fourth_first, listed_marks}
pub use Rattle.crmf.proofs.theorems.values.ValidityOrder.{forwards_exactly}
pub use Rattle.crmf.proofs.theorems.rows.TimeRows.{time_leaf, times_shown, validities_forwards}
pub use Rattle.crmf.proofs.theorems.editions.LeftOutFields.{fourth, fourth_exactly}
pub use Rattle.crmf.proofs.theorems.pieces.LeftOutPieces.{piece_among, left_out_too}
pub use Rattle.crmf.proofs.theorems.editions.Marks.{trail_occurrences, marks_met}
pub use Rattle.crmf.proofs.theorems.editions.FirstForms.{FirstForm, forms_exactly}
pub use Rattle.crmf.proofs.theorems.editions.AscendingPlaces.{Ascends, ascends_least, trail_ascends, occurrences_ascend, first_least}
pub use Rattle.crmf.proofs.theorems.editions.ReadableSets.{first_of, unread, Follows, own_walk_lem, two_sets}
pub use Rattle.crmf.proofs.theorems.editions.OneEdition.{other, foreign, own_alike, own_stops, own_passes}
pub use Rattle.crmf.proofs.theorems.editions.Differences.{StopsAt, own_difference, other_walk}
pub use Rattle.crmf.specs.meaning.Kinds.{row_kinds}
pub use Rattle.crmf.proofs.theorems.lines.TableChecks.{Lives, WayLines, inside_starts, start_lives, onward_lives, ways_lines, kind_known, item_known, kind_given}
pub use Rattle.crmf.proofs.theorems.rows.RowsInPlace.{absent_row}
pub use Rattle.crmf.proofs.theorems.rows.RowKinds.{row_known}
pub use Rattle.crmf.proofs.theorems.rows.RowsOfLines.{rows_lines, rows_same, rows_count, walk_counts}
pub use Rattle.crmf.proofs.theorems.rows.RowLaws.{Inner, first_header, batch_row, row_zero, rows_some, rows_ascend, row_parent, parent_container, row_within}
pub use Rattle.crmf.proofs.theorems.rows.RowsNested.{rows_nested}
pub use Rattle.crmf.proofs.theorems.rows.SiblingKinds.{kinds_ascend}
pub use Rattle.crmf.proofs.theorems.rows.RowContents.{row_content_lem, content_same, content_right}
pub use Rattle.crmf.proofs.theorems.grammar.AlikeMatches.{matches_alike, matches_moved}
pub use Rattle.crmf.proofs.theorems.rows.RowsMoved.{rows_moved}
pub use Rattle.crmf.proofs.theorems.rows.RowsRenumbered.{rows_renumbered}
pub use Rattle.crmf.proofs.theorems.rows.ShortRows.{short_append, short_both, short_mapped, short_moved, short_renumbered}
pub use Rattle.crmf.proofs.theorems.pieces.PiecesOf.{piece_if, pieces, pieces_in}
pub use Rattle.crmf.proofs.theorems.pieces.ShownPieces.{pieces_length, rows_pieces, batch_pieces}
pub use Rattle.crmf.proofs.theorems.rows.DraftRows.{rows_by_width, rows_room, row_cut, rows_back, numbers_once, numbers_back}
pub use Rattle.crmf.proofs.theorems.rows.FilledRows.{fits_room, Holds, over_holds, rows_of, rows_counted, filled_rows, filled_short, filled_whole}
pub use Rattle.crmf.proofs.theorems.rows.PackedRows.{packed_length, packed_at, packed_row, packed_all, fields_below}
pub use Rattle.crmf.proofs.theorems.messages.FieldLaws.{child_first, listed_none, listed_some, FormedField, IfAny}
pub use Rattle.crmf.proofs.theorems.messages.FieldSteps.{field_at, Begins, fields_end, fields_at, fields_begin, inside_fields, first_with_none, first_with_here, first_with_next, child_identified, batch_at, messages_inside, message_field, proof_cases, proof_child_stands, stands_part}
pub use Rattle.crmf.proofs.theorems.messages.FieldsMatch.{Holding}
pub use Rattle.crmf.proofs.theorems.messages.MessageLaws.{ProofMatches, ra_verified, signature, key_encipherment, key_agreement, MessageMatches, MessageParts, BatchContent, MessageStands}
pub use Rattle.crmf.proofs.theorems.messages.MessageLaws.{batch_content, message_parts, messages_match, messages_formed, messages_stand, messages_moved, batch_of_matches, batch_of_formed, at_position, position_within}
pub use Rattle.crmf.proofs.theorems.messages.MessageLaws.{own_fields}
pub use Rattle.crmf.proofs.theorems.messages.MessageRows.{message_rows, rows_of_messages, message_rows_lem, batch_rows_of_messages, rows_below, messages_rows_append, messages_rows_moved, messages_rows_renumbered}
pub use Rattle.crmf.proofs.theorems.messages.BatchesOfMessages.{BatchTree, BatchWith, batch_octets_parts, messages_octets, flatten_append, content_octets, batch_octets_lem, batch_length, batch_octets_left, batch_octets_right, batch_from, batch_from_lem}
pub use Rattle.crmf.proofs.theorems.messages.JoinedBatches.{joined_tree, first_move, second_move, joined_tree_lem, joined_messages, joined_rows, joined_short}
pub use Rattle.crmf.proofs.theorems.messages.CutBatches.{cut_tree, cut_move, cut_tree_lem, cut_message, cut_short}
pub use Rattle.crmf.proofs.theorems.pieces.Agreeing.{leaf_octets, agree_in_place, agree_itself, Within, agreed_pieces, agreed_right, pieces_agree}
pub use Rattle.crmf.proofs.theorems.pieces.Assembly.{assembly, rows_few, pieces_short}
pub use Rattle.crmf.proofs.theorems.pieces.AssembledOctets.{pieces_octets, row_ends, rows_within_lem}
pub use Rattle.crmf.proofs.theorems.rows.Writing.{over_parts, numbers_length}
pub use Rattle.crmf.proofs.theorems.messages.MessageSteps.{field_read, sequence_read, first_read, IdRead, id_read, batch_read, content_read}
pub use Rattle.crmf.proofs.theorems.messages.Positions.{read_forward, content_places, after_places, next_in_order, next_fields, StandsThere, position_missing, position_there, message_read}
pub use Rattle.crmf.proofs.theorems.messages.MessageSizes.{ids_some, ids_eight, messages_few}
pub use Rattle.crmf.proofs.theorems.explain.LongIds.{rows_long, walk_long, long_none}
pub use Rattle.crmf.proofs.theorems.explain.FirstLongIds.{long_exactly, short_none, none_short}
pub use Rattle.crmf.proofs.theorems.explain.WholeInput.{count_whole, rows_whole, whole_count, whole_long}
pub use Rattle.crmf.proofs.theorems.explain.CountedBatches.{Tallied, count_passes, count_stops, count_tallies, count_own, count_foreign, count_long}
pub use Rattle.crmf.proofs.theorems.recognise.AgreedRows.{agreed_both, agreed_all}
pub use Rattle.crmf.proofs.theorems.recognise.CountSteps.{not_recognised}
pub use Rattle.crmf.proofs.theorems.recognise.CountWays.{unrecognised_stays, recognised_fills}
pub use Rattle.crmf.proofs.theorems.recognise.RecognisedCounts.{none_met, Quick, recognised_walk}
pub use Rattle.crmf.proofs.theorems.recognise.PassedCounts.{walk_recognised}
pub use Rattle.crmf.proofs.theorems.recognise.RecognisedBatches.{ShortBatch, read_back, batch_rows_lem, recognised_exact, unrecognised_exact}
pub use Rattle.crmf.proofs.theorems.recognise.RecognisedTables.{Recognises, shown, roomless, other_input, recognises_exactly}
pub use Rattle.crmf.proofs.theorems.values.ValueRules.{other_length, same_none, same_more, same_octets, same_itself}
pub use Rattle.crmf.proofs.theorems.pieces.PieceLaws.{container_kinds, identifier_of_lem, implied_type, implied_none, pieces_none, pieces_row, own_container, own_leaf}
pub use Rattle.crmf.proofs.theorems.pieces.PieceLaws.{whole_container, whole_leaf, children_none, children_piece, assembled_none, assembled_piece}
pub use Rattle.crmf.proofs.theorems.pieces.PieceLaws.{within_none, within_piece, children_bound, numbers_none, numbers_row}
