-- Requests as the program writes them.
use Rattle.std.specs.Prelude.{ℕ, List, ◌++◌, length, codes, decimal}

-- the head of a request whose body has so many bytes (RFC 9112)
unfoldable pub head_of : List ℕ → ℕ → List ℕ
head_of line count =
    line ++ (codes " HTTP/1.1\r\nHost: office\r\nContent-Length: " ++ (decimal count
    ++ codes "\r\n\r\n"))

-- a request with its body
abbrev pub request : List ℕ → List ℕ → List ℕ
request line body = head_of line (length body) ++ body
