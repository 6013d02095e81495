-- Worked rows: moments, members and lines, as text.
use Rattle.std.proofs.Common.{◌≡◌, ◌++◌, ◌∷◌, [], true, false, Some, None, map, codes, refl}
use Rattle.std.specs.Char.{encode_utf8}
use Rattle.std.specs.Fmt.{digits, padded_integral, char_count}
use Rattle.std.specs.Str.{chars, is_utf8}
use Rattle.hex.specs.Hex.{encode_with}
use Rattle.indications.specs.declared.side.Side.TheVariants.{Sender, Receiver}
use Rattle.json.specs.Print.{print, print_from, escape_byte}
use Rattle.station_lines.specs.Letters.{safe_text}
use Rattle.station_lines.specs.Moments.{moment_text}
use Rattle.station_lines.specs.Members.{number_member, octets_member, text_member, flag_member, hex_member, moment_member}
use Rattle.station_lines.specs.CountLines.{delivered_line, ended_line, store_line}
use Rattle.station_lines.specs.StatusLines.{heard_members, log_line, missing_members, storing_line, why_members}
use Rattle.station_lines.specs.EventLines.{asker_members, stored_line, lost_line, end_line}

-- ---- moments

-- days round leap days, years and centuries
moments : map (λ ms. moment_text (record { 0 = ms }))
    (0 ∷ 951_782_400_001 ∷ 951_868_800_010 ∷ 1_709_164_800_000 ∷ 1_767_225_599_999 ∷ 1_767_225_600_000
    ∷ 4_107_542_399_000 ∷ 4_107_542_400_000 ∷ 253_402_300_799_999 ∷ 253_402_300_800_000 ∷ [])
    ≡ codes "1970-01-01T00:00:00.000Z" ∷ codes "2000-02-29T00:00:00.001Z" ∷ codes "2000-03-01T00:00:00.010Z"
    ∷ codes "2024-02-29T00:00:00.000Z" ∷ codes "2025-12-31T23:59:59.999Z" ∷ codes "2026-01-01T00:00:00.000Z"
    ∷ codes "2100-02-28T23:59:59.000Z" ∷ codes "2100-03-01T00:00:00.000Z" ∷ codes "9999-12-31T23:59:59.999Z"
    ∷ codes "10000-01-01T00:00:00.000Z" ∷ []
unfolding digits padded_integral char_count encode_utf8
moments = refl

-- ---- members

-- numbers round 2^53
numbers : map (λ number. print (number_member (codes "seq") number))
    (0 ∷ 9_007_199_254_740_992 ∷ 9_007_199_254_740_993 ∷ 18_446_744_073_709_551_615 ∷ [])
    ≡ codes "\"seq\":0" ∷ codes "\"seq\":9007199254740992"
    ∷ codes "\"seq\":9007199254740993,\"seq_text\":\"9007199254740993\""
    ∷ codes "\"seq\":18446744073709551615,\"seq_text\":\"18446744073709551615\"" ∷ []
unfolding digits print_from escape_byte number_member text_member
numbers = refl

-- names of files: plain, empty, with a quote, a backslash and control characters, in UTF-8, and no text
names : map (λ octets. print (octets_member (codes "file") octets))
    (codes "a.bin" ∷ [] ∷ codes "\"\\" ∷ (0 ∷ 9 ∷ 10 ∷ 31 ∷ 127 ∷ []) ∷ (0xC3 ∷ 0xA9 ∷ []) ∷ (0xFF ∷ 0x00 ∷ [])
    ∷ (0xC3 ∷ 0x28 ∷ []) ∷ [])
    ≡ codes "\"file\":\"a.bin\"" ∷ codes "\"file\":\"\"" ∷ codes "\"file\":\"\\\"\\\\\""
    ∷ (codes "\"file\":\"\\u0000\\t\\n\\u001f" ++ (127 ∷ 34 ∷ []))
    ∷ (codes "\"file\":\"" ++ (0xC3 ∷ 0xA9 ∷ 34 ∷ []))
    ∷ codes "\"file_hex\":\"ff00\"" ∷ codes "\"file_hex\":\"c328\"" ∷ []
unfolding digits print_from escape_byte encode_with encode_utf8 chars is_utf8 octets_member text_member hex_member
names = refl

-- what a terminal obeys, and what turns text round: DEL, U+0080, U+009F, U+202A, U+202E, U+2066, U+2069; the characters beside them stay
unsafe : map safe_text ((126 ∷ 127 ∷ []) ∷ (0xC2 ∷ 0x80 ∷ 0xC2 ∷ 0x9F ∷ 0xC2 ∷ 0xA0 ∷ [])
    ∷ (0xE2 ∷ 0x80 ∷ 0xA9 ∷ 0xE2 ∷ 0x80 ∷ 0xAA ∷ 0xE2 ∷ 0x80 ∷ 0xAE ∷ 0xE2 ∷ 0x80 ∷ 0xAF ∷ [])
    ∷ (0xE2 ∷ 0x81 ∷ 0xA5 ∷ 0xE2 ∷ 0x81 ∷ 0xA6 ∷ 0xE2 ∷ 0x81 ∷ 0xA9 ∷ 0xE2 ∷ 0x81 ∷ 0xAA ∷ []) ∷ [])
    ≡ codes "~\\u007f" ∷ (codes "\\u0080\\u009f" ++ (0xC2 ∷ 0xA0 ∷ []))
    ∷ (0xE2 ∷ 0x80 ∷ 0xA9 ∷ [] ++ codes "\\u202a\\u202e" ++ (0xE2 ∷ 0x80 ∷ 0xAF ∷ []))
    ∷ (0xE2 ∷ 0x81 ∷ 0xA5 ∷ [] ++ codes "\\u2066\\u2069" ++ (0xE2 ∷ 0x81 ∷ 0xAA ∷ [])) ∷ []
unfolding safe_text chars encode_utf8
unsafe = refl

-- ---- lines

logs : log_line (record { failing = false; written = 17; lost = 0 })
    ≡ codes "{\"kind\":\"log\",\"failing\":false,\"written\":17,\"lost\":0}\n"
unfolding digits print_from escape_byte text_member flag_member number_member safe_text chars encode_utf8
logs = refl

lost : lost_line (record { 0 = 0 }) 3 ≡ codes "{\"at\":\"1970-01-01T00:00:00.000Z\",\"kind\":\"lost\",\"count\":3}\n"
unfolding digits print_from escape_byte padded_integral char_count encode_utf8 moment_member text_member number_member safe_text chars
lost = refl

storing : storing_line (record { source = record { 0 = 9 }; seq = 4; since = record { 0 = 0 }; why = None })
    ≡ codes "{\"kind\":\"storing\",\"source\":9,\"seq\":4,\"since\":\"1970-01-01T00:00:00.000Z\"}\n"
unfolding digits print_from escape_byte padded_integral char_count encode_utf8 moment_member text_member number_member safe_text chars
storing = refl

why : map print (why_members None ∷ why_members (Some (codes "no space is left")) ∷ []) ≡ [] ∷ codes "\"why\":\"no space is left\"" ∷ []
unfolding print_from escape_byte text_member
why = refl

ended : ended_line (record { end = Receiver; class = 2; condition = 8; count = 3 })
    ≡ codes "{\"kind\":\"ended\",\"role\":\"receiver\",\"class\":2,\"condition\":8,\"count\":3}\n"
unfolding digits print_from escape_byte text_member number_member safe_text chars encode_utf8
ended = refl

delivered : delivered_line (record { end = Sender; files = 2; octets = 900 })
    ≡ codes "{\"kind\":\"delivered\",\"role\":\"sender\",\"files\":2,\"octets\":900}\n"
unfolding digits print_from escape_byte text_member number_member safe_text chars encode_utf8
delivered = refl

store : store_line (record { source = record { 0 = 9 }; seq = 4; at = record { 0 = 0 }; microseconds = 250; why = None })
    ≡ codes "{\"kind\":\"store\",\"source\":9,\"seq\":4,\"at\":\"1970-01-01T00:00:00.000Z\",\"microseconds\":250}\n"
unfolding digits print_from escape_byte padded_integral char_count encode_utf8 moment_member text_member number_member safe_text chars
store = refl

missing : map print (missing_members None ∷ missing_members (Some 7) ∷ []) ≡ [] ∷ codes "\"missing\":7" ∷ []
unfolding digits print_from escape_byte text_member number_member
missing = refl

heard : map print (heard_members None ∷ heard_members (Some (record { at = record { 0 = 0 }; silence = 50 })) ∷ [])
    ≡ [] ∷ codes "\"heard\":\"1970-01-01T00:00:00.000Z\",\"silence\":50" ∷ []
unfolding digits print_from escape_byte padded_integral char_count encode_utf8 moment_member text_member number_member
heard = refl

askers : map print (asker_members None ∷ asker_members (Some 3) ∷ []) ≡ codes "\"by\":\"input\"" ∷ codes "\"by\":\"client\",\"seat\":3" ∷ []
unfolding digits print_from escape_byte text_member number_member
askers = refl

ends : end_line (record { at = record { 0 = 0 }; number = 5 })
    ≡ codes "{\"at\":\"1970-01-01T00:00:00.000Z\",\"number\":5,\"kind\":\"end\"}\n"
unfolding digits print_from escape_byte padded_integral char_count encode_utf8 moment_member text_member number_member safe_text chars
ends = refl

-- the store kept a file, under another name
stores : stored_line (record { at = record { 0 = 0 }; number = 2 }) (record { source = record { 0 = 1 }; seq = 41 }) true (Some (codes "a.1"))
    ≡ codes "{\"at\":\"1970-01-01T00:00:00.000Z\",\"number\":2,\"kind\":\"stored\",\"source\":1,\"seq\":41,\"status\":\"retained\",\"as\":\"a.1\"}\n"
unfolding digits print_from escape_byte padded_integral char_count encode_utf8 moment_member text_member number_member safe_text chars
stores = refl

-- it did not keep one
rejects : stored_line (record { at = record { 0 = 0 }; number = 3 }) (record { source = record { 0 = 1 }; seq = 42 }) false (Some (codes "no space is left"))
    ≡ codes "{\"at\":\"1970-01-01T00:00:00.000Z\",\"number\":3,\"kind\":\"stored\",\"source\":1,\"seq\":42,\"status\":\"rejected\",\"why\":\"no space is left\"}\n"
unfolding digits print_from escape_byte padded_integral char_count encode_utf8 moment_member text_member number_member safe_text chars
rejects = refl
