-- Worked texts: what RFC 4180 says of each, or where it is silent the documentation of
-- the crate `csv`.
use Rattle.std.specs.Prelude.{◌≡◌, ◌++◌, [], ◌∷◌, codes}
use Rattle.csv_records.specs.Records.{csv_records}

pub record WorkedTexts : Type 0 where
  -- a text with no byte, and one of empty lines alone, has no record
  pub none : csv_records [] ≡ []
  pub empty_lines : csv_records (codes "\n\r\n\n") ≡ []
  -- a line of one space has a record of one field
  pub space : csv_records (codes " \n") ≡ (codes " " ∷ []) ∷ []
  -- LF, CR LF and CR alone each end a record
  pub line_feed : csv_records (codes "a\nb\n") ≡ (codes "a" ∷ []) ∷ (codes "b" ∷ []) ∷ []
  pub both : csv_records (codes "a\r\nb\r\n") ≡ (codes "a" ∷ []) ∷ (codes "b" ∷ []) ∷ []
  pub carriage_return : csv_records (codes "a\rb\n") ≡ (codes "a" ∷ []) ∷ (codes "b" ∷ []) ∷ []
  -- the last record may end with the text
  pub last_line : csv_records (codes "a\nb") ≡ (codes "a" ∷ []) ∷ (codes "b" ∷ []) ∷ []
  -- each comma has a field after it, and records may differ in length
  pub comma_at_end : csv_records (codes "a,") ≡ (codes "a" ∷ [] ∷ []) ∷ []
  pub lengths : csv_records
      (codes "a\nb,c\n") ≡ (codes "a" ∷ []) ∷ (codes "b" ∷ codes "c" ∷ []) ∷ []
  -- quotes around a field are not part of it
  pub empty_quotes : csv_records (codes "\"\"\n") ≡ ([] ∷ []) ∷ []
  pub number : csv_records (codes "\"1\",2") ≡ (codes "1" ∷ codes "2" ∷ []) ∷ []
  pub quoted : csv_records (codes "\"a,\r\nb\"") ≡ (codes "a,\r\nb" ∷ []) ∷ []
  -- a doubled quote within quotes is one quote
  pub doubled : csv_records (codes "\"a\"\"b\"") ≡ (codes "a\"b" ∷ []) ∷ []
  -- a quote in a field that did not begin with one is a byte, and what follows a closed quote
  -- joins its field
  pub inner : csv_records (codes "a\"b,\"c\"d") ≡ (codes "a\"b" ∷ codes "cd" ∷ []) ∷ []
  -- a quote that is not closed takes the rest
  pub unclosed : csv_records (codes "\"a\n1,2") ≡ (codes "a\n1,2" ∷ []) ∷ []
  -- a byte order mark is dropped at the start, and only there
  pub mark : csv_records (239 ∷ 187 ∷ 191 ∷ codes "a\n") ≡ (codes "a" ∷ []) ∷ []
  pub later_mark : csv_records
      (codes "a," ++ (239 ∷ 187 ∷ 191 ∷ [])) ≡ (codes "a" ∷ (239 ∷ 187 ∷ 191 ∷ []) ∷ []) ∷ []
  -- bytes that are no UTF-8 are bytes
  pub no_text : csv_records (255 ∷ 0 ∷ []) ≡ ((255 ∷ 0 ∷ []) ∷ []) ∷ []
