-- The kinds of rows, by name: document 01's section "Rows", SPECIFICATION 5. src/kinds.rt has the same names. Assumes nothing.
use Rattle.std.specs.Prelude.{ℕ, List, [], ◌∷◌}

-- no row
abbrev pub none : ℕ
none = 0

-- "Containers: batch 1, message 2, certReq 3, template 5"; "Leaves: certReqId 4"
abbrev pub batch : ℕ
batch = 1

abbrev pub message : ℕ
message = 2

abbrev pub cert_req : ℕ
cert_req = 3

abbrev pub cert_req_id : ℕ
cert_req_id = 4

abbrev pub cert_template : ℕ
cert_template = 5

-- "template tags 0 to 9 are 10 to 19": "version 80", "serialNumber 81", "signingAlg A2", "issuer A3", "validity A4"
abbrev pub version : ℕ
version = 10

abbrev pub serial_number : ℕ
serial_number = 11

abbrev pub signing_alg : ℕ
signing_alg = 12

abbrev pub issuer : ℕ
issuer = 13

abbrev pub validity : ℕ
validity = 14

-- "subject A5", "publicKey A6", "issuerUID 87", "subjectUID 88", "extensions A9"
abbrev pub subject : ℕ
subject = 15

abbrev pub public_key : ℕ
public_key = 16

abbrev pub issuer_uid : ℕ
issuer_uid = 17

abbrev pub subject_uid : ℕ
subject_uid = 18

abbrev pub extensions : ℕ
extensions = 19

-- "notBefore 20, notAfter 21, extension 22"
abbrev pub not_before : ℕ
not_before = 20

abbrev pub not_after : ℕ
not_after = 21

abbrev pub extension : ℕ
extension = 22

-- "controls 30"; "control 40 + n, unknown 31"
abbrev pub controls : ℕ
controls = 30

abbrev pub unknown_control : ℕ
unknown_control = 31

abbrev pub reg_token : ℕ
reg_token = 41

abbrev pub authenticator : ℕ
authenticator = 42

abbrev pub pki_publication_info : ℕ
pki_publication_info = 43

abbrev pub pki_archive_options : ℕ
pki_archive_options = 44

abbrev pub old_cert_id : ℕ
old_cert_id = 45

abbrev pub protocol_encr_key : ℕ
protocol_encr_key = 46

-- "raVerified 50", "signature 51, keyEncipherment 52, keyAgreement 53", "poposkInput 54, AlgId 55, bits 56"
abbrev pub ra_verified : ℕ
ra_verified = 50

abbrev pub signature : ℕ
signature = 51

abbrev pub key_encipherment : ℕ
key_encipherment = 52

abbrev pub key_agreement : ℕ
key_agreement = 53

abbrev pub poposk_input : ℕ
poposk_input = 54

abbrev pub signature_algorithm : ℕ
signature_algorithm = 55

abbrev pub signature_bits : ℕ
signature_bits = 56

-- "choices 60 to 64 by tag"
abbrev pub this_message : ℕ
this_message = 60

abbrev pub subsequent_message : ℕ
subsequent_message = 61

abbrev pub dh_mac : ℕ
dh_mac = 62

abbrev pub agree_mac : ℕ
agree_mac = 63

abbrev pub encrypted_key : ℕ
encrypted_key = 64

-- "regInfo 70", "regInfo unknown 71, pairs 72 (04) or 73 (0C)", "carried certReq item 74 (its child is a 3; its type is implied)"
abbrev pub reg_info : ℕ
reg_info = 70

abbrev pub unknown_reg_info : ℕ
unknown_reg_info = 71

abbrev pub octet_pairs : ℕ
octet_pairs = 72

abbrev pub utf8_pairs : ℕ
utf8_pairs = 73

abbrev pub reg_info_cert_req : ℕ
reg_info_cert_req = 74

-- all of them
abbrev pub row_kinds : List ℕ
row_kinds =
    batch ∷ message ∷ cert_req ∷ cert_req_id ∷ cert_template ∷ version ∷ serial_number ∷ signing_alg ∷ issuer ∷ validity ∷ subject ∷ public_key ∷ issuer_uid ∷ subject_uid ∷ extensions ∷ not_before ∷ not_after ∷ extension ∷ controls ∷ unknown_control ∷ reg_token ∷ authenticator ∷ pki_publication_info ∷ pki_archive_options ∷ old_cert_id ∷ protocol_encr_key ∷ ra_verified ∷ signature ∷ key_encipherment ∷ key_agreement ∷ poposk_input ∷ signature_algorithm ∷ signature_bits ∷ this_message ∷ subsequent_message ∷ dh_mac ∷ agree_mac ∷ encrypted_key ∷ reg_info ∷ unknown_reg_info ∷ octet_pairs ∷ utf8_pairs ∷ reg_info_cert_req ∷ []
