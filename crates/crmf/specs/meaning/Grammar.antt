-- The grammar, a line for each line of document 01: what each container holds (SPECIFICATION 3.2 to 3.5 and 3.7). Above each container are
-- its ASN.1 type with the RFCs' sections, and document 01's words. Identifiers are in hex, kinds by name. Assumes nothing.
use Rattle.std.specs.Prelude.{[], ◌∷◌}
use Rattle.crmf.specs.meaning.Value.{integer, boolean, bit_string, empty, zero_or_one, true_only, utc_time, generalized_time_from2050, some_forwards, never}
use Rattle.crmf.specs.meaning.Value.{action, method, control_type, info_type}
use Rattle.crmf.specs.meaning.Kinds as kinds
use Rattle.crmf.specs.meaning.Details.{fits_no_part, value_broken, list_or_location}
use Rattle.crmf.specs.meaning.Notation.{Name, Parts, done, ◌then◌, select, plain, holding, ruled, a_general_name, a_value, row, item_row, only, only_unless_two, one, maybe, any, one_of, maybe_one_of, plus}
use Rattle.crmf.specs.meaning.Notation.{Top, Batch, Message, CertReq, Template, Validity, Time, AlgId, Spki, OneName, RdnSequence, Rdn, Attribute, Extensions, Extension}
use Rattle.crmf.specs.meaning.Notation.{Signature, PoposkInput, Sender, PkMac, KeyProof}
use Rattle.crmf.specs.meaning.Notation.{Controls, Control, UnknownControl, RegToken, Authenticator, PublicationInfo, ArchiveOptions, OldCertId, ProtocolKey}
use Rattle.crmf.specs.meaning.Notation.{PubInfo, NotPublished, Published, Locations, Location, DontCare, Where, Archived, CertId}
use Rattle.crmf.specs.meaning.Notation.{RegInfo, Info, UnknownInfo, Pairs, Carried}

-- the parts of a container
unfoldable pub content : Name → Parts
-- The input's one element. "Batch 30"
content Top = one (row kinds.batch (holding 0x30 Batch)) then done
-- CertReqMessages (RFC 2511 3, RFC 4211 3). "Batch 30: message+"
content Batch = plus (row kinds.message (holding 0x30 Message))
-- CertReqMsg (RFC 2511 3, RFC 4211 3). "Message 30: certReq, proof?, regInfo?"
content Message =
    one (row kinds.cert_req (holding 0x30 CertReq))
    -- ProofOfPossession (RFC 2511 4.4, RFC 4211 4). "raVerified 80 empty", "signature A1", "keyEncipherment A2 or keyAgreement A3"
    then maybe_one_of (row kinds.ra_verified (ruled empty (plain 0x80)) ∷ row kinds.signature (holding 0xA1 Signature) ∷ row kinds.key_encipherment (holding 0xA2 KeyProof) ∷ row kinds.key_agreement (holding 0xA3 KeyProof) ∷ [])
    then maybe (row kinds.reg_info (holding 0x30 RegInfo))
    then done
-- CertRequest (RFC 2511 5, RFC 4211 5). "certReq 30: certReqId 02, template 30, controls 30?"
content CertReq = one (row kinds.cert_req_id (plain 0x02)) then one (row kinds.cert_template (holding 0x30 Template)) then maybe (row kinds.controls (holding 0x30 Controls)) then done
-- CertTemplate (RFC 2511 5, RFC 4211 5). "Template, each optional, in order"
content Template =
    -- "version 80 INTEGER, serialNumber 81 INTEGER"; document 02, A4: "In edition 2 those four now fit no part, and any version but 2 breaks its
    -- rule. They join the list as D4, edition 1 only"
    maybe (only_unless_two 1 4 value_broken (row kinds.version (ruled integer (plain 0x80))))
    then maybe (only 1 4 fits_no_part (row kinds.serial_number (ruled integer (plain 0x81))))
    -- "signingAlg A2 AlgId content" (D4), "issuer A3 (Name), validity A4" with "at least one" and document 02's A12: "notAfter isn't earlier than
    -- notBefore", "subject A5 (Name)"
    then maybe (only 1 4 fits_no_part (row kinds.signing_alg (holding 0xA2 AlgId)))
    then maybe (row kinds.issuer (holding 0xA3 OneName))
    then maybe (row kinds.validity (ruled some_forwards (holding 0xA4 Validity)))
    then maybe (row kinds.subject (holding 0xA5 OneName))
    -- "publicKey A6 Spki content, issuerUID 87 and subjectUID 88 BIT STRING" (D4), "extensions A9"
    then maybe (row kinds.public_key (holding 0xA6 Spki))
    then maybe (only 1 4 fits_no_part (row kinds.issuer_uid (ruled bit_string (plain 0x87))))
    then maybe (only 1 4 fits_no_part (row kinds.subject_uid (ruled bit_string (plain 0x88))))
    then maybe (row kinds.extensions (holding 0xA9 Extensions))
    then done
-- OptionalValidity (RFC 2511 5, RFC 4211 5). "Validity: notBefore A0 (Time)?, notAfter A1 (Time)?"
content Validity = maybe (row kinds.not_before (holding 0xA0 Time)) then maybe (row kinds.not_after (holding 0xA1 Time)) then done
-- Time (RFC 2511 5, RFC 4211 5). "Time: 17, YYMMDDHHMMSSZ, or 18, YYYYMMDDHHMMSSZ"; document 02, A12: "days through 2049 stand as UTCTime and
-- later ones as GeneralizedTime"
content Time = one_of (ruled utc_time (plain 0x17) ∷ ruled generalized_time_from2050 (plain 0x18) ∷ []) then done
-- AlgorithmIdentifier (RFC 5912 3). "AlgId 30: 06, any?"
content AlgId = one (plain 0x06) then maybe a_value then done
-- SubjectPublicKeyInfo (RFC 5912 14). "Spki 30: AlgId, 03"
content Spki = one (holding 0x30 AlgId) then one (plain 0x03) then done
-- Name (RFC 5912 14). "Name 30: (31: (30: 06, any)+)*"
content OneName = one (holding 0x30 RdnSequence) then done
-- RDNSequence (RFC 5912 14). "(31: (30: 06, any)+)*"
content RdnSequence = any (holding 0x31 Rdn) then done
-- RelativeDistinguishedName (RFC 5912 14). "(30: 06, any)+"
content Rdn = plus (holding 0x30 Attribute)
-- AttributeTypeAndValue (RFC 5912 2, as SingleAttribute). "30: 06, any"
content Attribute = one (plain 0x06) then one a_value then done
-- Extensions (RFC 5912 2). "Extensions: Extension+"
content Extensions = plus (row kinds.extension (holding 0x30 Extension))
-- Extension (RFC 5912 2). "Extension 30: 06, 01?, 04, and a BOOLEAN present must be FF"
content Extension = one (plain 0x06) then maybe (ruled true_only (plain 0x01)) then one (plain 0x04) then done
-- POPOSigningKey (RFC 2511 4.4, RFC 4211 4.1). "signature A1: poposkInput A0?, AlgId, 03"
content Signature = maybe (row kinds.poposk_input (holding 0xA0 PoposkInput)) then one (row kinds.signature_algorithm (holding 0x30 AlgId)) then one (row kinds.signature_bits (plain 0x03)) then done
-- POPOSigningKeyInput (RFC 2511 4.4, RFC 4211 4.1). "poposkInput: sender A0 (GeneralName) or PkMac, then Spki"
content PoposkInput = one_of (holding 0xA0 Sender ∷ holding 0x30 PkMac ∷ []) then one (holding 0x30 Spki) then done
-- GeneralName (RFC 5912 14). "sender A0 (GeneralName)"
content Sender = one a_general_name then done
-- PKMACValue (RFC 2511 4.4, RFC 4211 4.1). "PkMac 30: AlgId, 03"
content PkMac = one (holding 0x30 AlgId) then one (plain 0x03) then done
-- POPOPrivKey (RFC 2511 4.4, RFC 4211 4.2). "one choice: 80 BIT STRING; 81 INTEGER 0 or 1; 82 BIT STRING; A3 PkMac content; A4 any nest";
-- "(D1) choices A3 and A4 are edition 2 only"
content KeyProof =
    one_of (row kinds.this_message (ruled bit_string (plain 0x80))
    ∷ row kinds.subsequent_message (ruled zero_or_one (plain 0x81))
    ∷ row kinds.dh_mac (ruled bit_string (plain 0x82))
    ∷ only 2 1 fits_no_part (row kinds.agree_mac (holding 0xA3 PkMac))
    ∷ only 2 1 fits_no_part (row kinds.encrypted_key (plain 0xA4))
    ∷ [])
    then done
-- Controls (RFC 2511 6, RFC 4211 6). "Controls and regInfo 30: item+"
content Controls = plus (holding 0x30 Control)
-- AttributeTypeAndValue in Controls (RFC 2511 6, RFC 4211 6). "Item 30: type 06, any value"; "n of 1 to 6, fix the value". The value gives
-- the item its row.
content Control =
    select 0x06 control_type (UnknownControl ∷ RegToken ∷ Authenticator ∷ PublicationInfo ∷ ArchiveOptions ∷ OldCertId ∷ ProtocolKey ∷ [])
-- The value of an item with an unknown type. "unknown, and its value is free"
content UnknownControl = one (item_row kinds.unknown_control a_value) then done
-- RegToken (RFC 2511 6.1, RFC 4211 6.1). "1, 2: 0C"
content RegToken = one (item_row kinds.reg_token (plain 0x0C)) then done
-- Authenticator (RFC 2511 6.2, RFC 4211 6.2). "1, 2: 0C"
content Authenticator = one (item_row kinds.authenticator (plain 0x0C)) then done
-- PKIPublicationInfo (RFC 2511 6.3, RFC 4211 6.3). "3: 30: 02 (0 or 1), (30: (30: 02 (0 to 3), GeneralName?)+)?, the list only with 1"
content PublicationInfo = one (item_row kinds.pki_publication_info (holding 0x30 PubInfo)) then done
-- action in PKIPublicationInfo (RFC 2511 6.3, RFC 4211 6.3). "02 (0 or 1)"
content PubInfo = select 0x02 action (NotPublished ∷ Published ∷ [])
-- pubInfos in PKIPublicationInfo, after action 0 and after action 1. "the list only with 1"
content NotPublished = maybe (ruled never (holding 0x30 Locations)) then done
content Published = maybe (holding 0x30 Locations) then done
-- pubInfos in PKIPublicationInfo (RFC 2511 6.3, RFC 4211 6.3). "30: (30: 02 (0 to 3), GeneralName?)+"
content Locations = plus (holding 0x30 Location)
-- SinglePubInfo (RFC 2511 6.3, RFC 4211 6.3). "30: 02 (0 to 3), GeneralName?"
content Location = select 0x02 method (DontCare ∷ Where ∷ Where ∷ Where ∷ [])
-- pubLocation in SinglePubInfo, after method 0 and after the others. "(D3) a location beside method 0 is edition 1 only"
content DontCare = maybe (only 1 3 list_or_location a_general_name) then done
content Where = maybe a_general_name then done
-- PKIArchiveOptions (RFC 2511 6.4, RFC 4211 6.4). "4: A0 around one 30 or A0; or 81; or 82 BOOLEAN"
content ArchiveOptions =
    one_of (item_row kinds.pki_archive_options (holding 0xA0 Archived) ∷ item_row kinds.pki_archive_options (plain 0x81) ∷ item_row kinds.pki_archive_options (ruled boolean (plain 0x82)) ∷ []) then done
-- EncryptedKey (RFC 2511 6.4, RFC 4211 6.4). "one 30 or A0"
content Archived = one_of (plain 0x30 ∷ plain 0xA0 ∷ []) then done
-- OldCertId (RFC 2511 6.5, RFC 4211 6.5). "5: 30: GeneralName, 02"
content OldCertId = one (item_row kinds.old_cert_id (holding 0x30 CertId)) then done
-- CertId (RFC 2511 6.5, RFC 4211 6.5). "30: GeneralName, 02"
content CertId = one a_general_name then one (plain 0x02) then done
-- ProtocolEncrKey (RFC 2511 6.6, RFC 4211 6.6). "6: Spki"
content ProtocolKey = one (item_row kinds.protocol_encr_key (holding 0x30 Spki)) then done
-- regInfo in CertReqMsg (RFC 2511 3, RFC 4211 3). "Controls and regInfo 30: item+"
content RegInfo = plus (holding 0x30 Info)
-- AttributeTypeAndValue in regInfo (RFC 2511 7, RFC 4211 7). "1: pairs; 2: a certReq. A type in the other place is unknown, and its value is
-- free"
content Info = select 0x06 info_type (UnknownInfo ∷ Pairs ∷ Carried ∷ [])
-- The value of an item with an unknown type. "unknown, and its value is free"
content UnknownInfo = one (item_row kinds.unknown_reg_info a_value) then done
-- OCTET STRING (RFC 2511 7) and UTF8Pairs (RFC 4211 7.1). "(D2) pairs are 04 in edition 1, 0C in edition 2"
content Pairs = one_of (only 1 2 fits_no_part (item_row kinds.octet_pairs (plain 0x04)) ∷ only 2 2 fits_no_part (item_row kinds.utf8_pairs (plain 0x0C)) ∷ []) then done
-- CertReq, a CertRequest (RFC 2511 7, RFC 4211 7.2). "2: a certReq"; "carried certReq item 74 (its child is a 3; its type is implied)"
content Carried = one (item_row kinds.reg_info_cert_req (row kinds.cert_req (holding 0x30 CertReq))) then done
