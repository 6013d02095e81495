-- Meaning. The condition codes by name (CCSDS 727.0-B-5, 5.1, the table of condition codes); 12 and 13 have none.
use Rattle.std.specs.Prelude.{ℕ}

abbrev pub no_error : ℕ
no_error = 0

abbrev pub positive_ack_limit : ℕ
positive_ack_limit = 1

abbrev pub keep_alive_limit : ℕ
keep_alive_limit = 2

abbrev pub invalid_transmission_mode : ℕ
invalid_transmission_mode = 3

abbrev pub filestore_rejection : ℕ
filestore_rejection = 4

abbrev pub file_checksum_failure : ℕ
file_checksum_failure = 5

abbrev pub file_size_error : ℕ
file_size_error = 6

abbrev pub nak_limit : ℕ
nak_limit = 7

abbrev pub inactivity : ℕ
inactivity = 8

abbrev pub invalid_file_structure : ℕ
invalid_file_structure = 9

abbrev pub check_limit : ℕ
check_limit = 10

abbrev pub unsupported_checksum_type : ℕ
unsupported_checksum_type = 11

abbrev pub suspend_request : ℕ
suspend_request = 14

abbrev pub cancel_request : ℕ
cancel_request = 15
