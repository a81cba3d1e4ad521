-- A document's arrays have no more elements in all than its text has bytes.
use Rattle.std.proofs.Common.{◌≡◌, ℕ, zero, suc, ◌+◌, ◌-◌, ◌<◌, ◌≤◌, Bool, true, false, cond, ◌&&◌, ◌==◌, nat_lt, nat_le, List, [], ◌∷◌, ◌++◌, length, drop, take, Option, Some, None, unwrap_or, is_some, option_map, option_and_then, refl, inl, inr, arith, length-drop, le_refl, le_trans, Ordering, Less, Equal, Greater, nat_cmp, slice_index}
use Rattle.std.proofs.lemmas.Bool.{cases_Bool}
use Rattle.std.proofs.lemmas.Bool.Decides.{nat_tests}
use Rattle.std.proofs.lemmas.Option.{none-some, same_Some}
use Rattle.std.specs.Cmp.Lexicographic.{slice_cmp}
use Rattle.std.specs.Ordering.{match_ordering}
use Rattle.std.specs.List.{prefix_len, list_all}
use Rattle.std.specs.Char.{is_digit}
use Rattle.std.specs.Str.Parse.{digits_value}
use Rattle.toml_parser.specs.declared.scalar.Scalar.{Scalar}
use Rattle.toml_parser.specs.declared.scalar.Scalar.TheVariants.{Boolean, Integer, Float, Datetime}
use Rattle.toml_parser.specs.Lexical.{Read, first, skip_blank, skip_ws, skip_from, skip_lines, skip_turn, split_while, starts_newline, is_ws, is_bare, right_bracket, right_brace, equals}
use Rattle.toml_parser.specs.Numbers.{unquoted, word_len, word_value}
use Rattle.toml_parser.specs.Strings.{Key, key, hex_len, is_scalar, simple_escape, is_plain, starts_string, key_after, simple_key, one_line, quoted, body, special, escape, escape_char, hex_escape, at_delims, after_piece, prepend, trim_newline, recursion_limit}
use Rattle.toml.specs.Data.{Data, array, table, Items, no_items, item, Members, no_members, member, get_member, push_item, same_key}
use Rattle.toml.specs.Tables.{implicit, dotted, header, Node, Nodes, no_nodes, node, value, open_table, open_array, get_node, insert, replace, close, close_node, Edit, header_node, dot_node, by_header, by_dot, along_header, along_dots, Definition, Expression, Document, key_value, std_table, array_table, new_node, redefine, at_key, at_found, put, define, define_as}
use Rattle.toml.specs.Parse.{val, items, members, after_element, after_byte, key_equals, keyval, scalar_data, atom, header_key, expression, ends_line, line, lines, skip_bom, parse_document}
use Rattle.toml.proofs.Blanks.{skip_within, skip_none}
use Rattle.sph_deck.specs.Document.{IsDocument, list_of_items, elements_at, value_at, elements}
use Rattle.sph_deck.specs.declared.key.Key.TheVariants.{Particle}
use Rattle.sph_deck.specs.Keys.{name_of}

-- a value, if there is one, costs at most n
pub record Costs {A : Type 0} (cost : A → ℕ) (n : ℕ) (o : Option A) : Type 0 where
  pub within : (x : A) → o ≡ Some x → cost x ≤ n

-- there is none
costs_none : {A : Type 0} {cost : A → ℕ} {n : ℕ} → Costs cost n None
costs_none = record { within = λ x e. absurd (none-some x e) }

-- there is one
costs_some : {A : Type 0} {cost : A → ℕ} {n : ℕ} (x : A) → cost x ≤ n → Costs cost n (Some x)
costs_some x h = record { within = λ y e. let same : x ≡ y = same_Some x y e in rw (← same) h }

-- whatever it is, it costs nothing
costs_nothing : {A : Type 0} (o : Option A) → Costs (λ x. 0) 0 o
costs_nothing o = record { within = λ x e. omega arith }

-- a larger bound
costs_more : {A : Type 0} {cost : A → ℕ} {n m : ℕ} {o : Option A} → Costs cost n o → n ≤ m → Costs cost m o
costs_more h le = record { within = λ x e. le_trans (h.within x e) le }

-- either branch
costs_if : {A : Type 0} {cost : A → ℕ} {n : ℕ} (b : Bool) (x y : Option A) → (b ≡ true → Costs cost n x) → (b ≡ false → Costs cost n y) → Costs cost n (cond b x y)
costs_if true x y then_x else_y = then_x refl
costs_if false x y then_x else_y = else_y refl

-- any of three branches
costs_ordering : {A : Type 0} {cost : A → ℕ} {n : ℕ} (o : Ordering) (x y z : Option A) → Costs cost n x → Costs cost n y → Costs cost n z → Costs cost n (match_ordering o x y z)
costs_ordering Less x y z p q r = p
costs_ordering Equal x y z p q r = q
costs_ordering Greater x y z p q r = r

-- under a map
costs_map : {A B : Type 0} {cost : A → ℕ} {n : ℕ} (o : Option A) {more : B → ℕ} {m : ℕ} (f : A → B) → Costs cost n o → ((x : A) → cost x ≤ n → more (f x) ≤ m) → Costs more m (option_map f o)
costs_map None f h step = costs_none
costs_map (Some x) f h step = costs_some (f x) (step x (h.within x refl))

-- what is read after it
costs_then : {A B : Type 0} {cost : A → ℕ} {n : ℕ} (o : Option A) {more : B → ℕ} {m : ℕ} (f : A → Option B) → Costs cost n o → ((x : A) → cost x ≤ n → Costs more m (f x)) → Costs more m (option_and_then f o)
costs_then None f h step = costs_none
costs_then (Some x) f h step = step x (h.within x refl)

-- how many items the arrays of a value have, at any depth
abbrev mutual
  pub size : Data → ℕ
  size (array ds) = size_items ds
  size (table ms) = size_members ms
  size _ = 0

  pub size_items : Items → ℕ
  size_items no_items = 0
  size_items (item d ds) = suc (size d + size_items ds)

  pub size_members : Members → ℕ
  size_members no_members = 0
  size_members (member k d ms) = size d + size_members ms

-- and those of the values that nodes stand for
abbrev mutual
  pub size_node : Node → ℕ
  size_node (value d) = size d
  size_node (open_table origin ns) = size_nodes ns
  size_node (open_array done last) = size_items done + suc (size_nodes last)

  pub size_nodes : Nodes → ℕ
  size_nodes no_nodes = 0
  size_nodes (node k x ns) = size_node x + size_nodes ns

-- what an expression adds to a document
abbrev pub size_of : Definition → ℕ
size_of (key_value d) = size d
size_of std_table = 0
size_of array_table = 1

-- the sizes of what was read, with the text that is left
abbrev pub left_of : {A : Type 0} → A × List ℕ → ℕ
left_of p = length p.1

abbrev pub of_data : Data × List ℕ → ℕ
of_data p = size p.0 + length p.1

abbrev pub of_items : Items × List ℕ → ℕ
of_items p = size_items p.0 + length p.1

abbrev pub of_members : Members × List ℕ → ℕ
of_members p = size_members p.0 + length p.1

abbrev pub of_pair : (Key × Data) × List ℕ → ℕ
of_pair p = size p.0.1 + length p.1

abbrev pub of_expression : Expression × List ℕ → ℕ
of_expression p = size_of p.0.1 + length p.1

abbrev pub of_document : Document → ℕ
of_document doc = size_nodes doc.0

-- one more item at the end
size-push : (ds : Items) (d : Data) → size_items (push_item ds d) ≡ size_items ds + suc (size d)
size-push no_items d = omega arith
size-push (item x ds) d = omega (arith, size-push ds d)

-- closed nodes are as large as the open ones
mutual
  size-close_node : (x : Node) → size (close_node x) ≡ size_node x
  size-close_node (value d) = refl
  size-close_node (open_table origin ns) = size-close ns
  size-close_node (open_array done last) = omega (arith, size-push done (table (close last)), size-close last)

  size-close : (ns : Nodes) → size_members (close ns) ≡ size_nodes ns
  size-close no_nodes = refl
  size-close (node k x ns) = omega (arith, size-close_node x, size-close ns)

-- a bound in each of three branches
le-match_ordering : (o : Ordering) (a b c : Nodes) (m : ℕ) → size_nodes a ≤ m → size_nodes b ≤ m → size_nodes c ≤ m → size_nodes (match_ordering o a b c) ≤ m
le-match_ordering Less a b c m p q r = p
le-match_ordering Equal a b c m p q r = q
le-match_ordering Greater a b c m p q r = r

-- a new key adds its node
size-insert-le : (k : List ℕ) (x : Node) (ns : Nodes) → size_nodes (insert k x ns) ≤ size_node x + size_nodes ns
size-insert-le k x no_nodes = omega arith
size-insert-le k x (node l y ns) =
    le-match_ordering (slice_cmp nat_cmp k l) (node k x (node l y ns)) (node l x ns) (node l y (insert k x ns)) _ (omega arith) (omega arith) (omega (arith, size-insert-le k x ns))

-- another node at a key
size-replace : (k : List ℕ) (x y : Node) (ns : Nodes) → get_node k ns ≡ Some x → size_nodes (replace k y ns) + size_node x ≡ size_nodes ns + size_node y
size-replace k x y no_nodes found = absurd (none-some x found)
size-replace k x y (node l z ns) found =
    elim (cases_Bool (same_key k l)) [
      | inl same ↦ let is : z ≡ x = same_Some z x (rw same at found) in rw (same, is) (omega arith)
      | inr other ↦ rw other (omega (arith, size-replace k x y ns (rw other at found)))
    ]

-- the edit adds at most n
abbrev pub Adds : ℕ → Edit → Type 0
Adds n edit = (ns : Nodes) → Costs size_nodes (size_nodes ns + n) (edit ns)

-- an edit under a header, and under a dotted key
header_node-adds : (n : ℕ) (edit : Edit) → Adds n edit → (x : Node) → Costs size_node (size_node x + n) (header_node edit x)
header_node-adds n edit adds (value d) = costs_none
header_node-adds n edit adds (open_table origin inner) = costs_map (edit inner) (open_table origin) (adds inner) (λ y h. h)
header_node-adds n edit adds (open_array done last) = costs_map (edit last) (open_array done) (adds last) (λ y h. omega arith)

dot_node-adds : (n : ℕ) (edit : Edit) → Adds n edit → (x : Node) → Costs size_node (size_node x + n) (dot_node edit x)
dot_node-adds n edit adds (value d) = costs_none
dot_node-adds n edit adds (open_table header inner) = costs_none
dot_node-adds n edit adds (open_table implicit inner) = costs_map (edit inner) (open_table dotted) (adds inner) (λ y h. h)
dot_node-adds n edit adds (open_table dotted inner) = costs_map (edit inner) (open_table dotted) (adds inner) (λ y h. h)
dot_node-adds n edit adds (open_array done last) = costs_none

-- the same at a key that may be missing
by_header-adds : (k : List ℕ) (n : ℕ) (edit : Edit) → Adds n edit → (ns : Nodes) (o : Option Node) → get_node k ns ≡ o → Costs size_nodes (size_nodes ns + n) (by_header k edit ns o)
by_header-adds k n edit adds ns None found =
    costs_map (edit no_nodes) (λ new. insert k (open_table implicit new) ns) (adds no_nodes) (λ new h. omega (arith, size-insert-le k (open_table implicit new) ns))
by_header-adds k n edit adds ns (Some x) found =
    costs_map (header_node edit x) (λ new. replace k new ns) (header_node-adds n edit adds x) (λ new h. omega (arith, size-replace k x new ns found))

by_dot-adds : (k : List ℕ) (n : ℕ) (edit : Edit) → Adds n edit → (ns : Nodes) (o : Option Node) → get_node k ns ≡ o → Costs size_nodes (size_nodes ns + n) (by_dot k edit ns o)
by_dot-adds k n edit adds ns None found =
    costs_map (edit no_nodes) (λ new. insert k (open_table dotted new) ns) (adds no_nodes) (λ new h. omega (arith, size-insert-le k (open_table dotted new) ns))
by_dot-adds k n edit adds ns (Some x) found =
    costs_map (dot_node edit x) (λ new. replace k new ns) (dot_node-adds n edit adds x) (λ new h. omega (arith, size-replace k x new ns found))

-- the same at the end of a path
along_header-adds : (path : List (List ℕ)) (n : ℕ) (edit : Edit) → Adds n edit → Adds n (along_header path edit)
unfolding along_header
along_header-adds [] n edit adds ns = adds ns
along_header-adds (k ∷ path) n edit adds ns = by_header-adds k n (along_header path edit) (along_header-adds path n edit adds) ns (get_node k ns) refl

along_dots-adds : (path : List (List ℕ)) (n : ℕ) (edit : Edit) → Adds n edit → Adds n (along_dots path edit)
unfolding along_dots
along_dots-adds [] n edit adds ns = adds ns
along_dots-adds (k ∷ path) n edit adds ns = by_dot-adds k n (along_dots path edit) (along_dots-adds path n edit adds) ns (get_node k ns) refl

-- a header that names a table again
redefine-adds : (what : Definition) (x : Node) → Costs size_node (size_node x + size_of what) (redefine what x)
redefine-adds std_table (open_table implicit inner) = costs_some (open_table header inner) (omega arith)
redefine-adds array_table (open_array done last) = costs_some (open_array (push_item done (table (close last))) no_nodes) (omega (arith, size-push done (table (close last)), size-close last))
redefine-adds _ _ = costs_none

-- what a key holds at first
new_node-le : (what : Definition) → size_node (new_node what) ≤ size_of what
new_node-le (key_value d) = omega arith
new_node-le std_table = omega arith
new_node-le array_table = omega arith

-- a definition at a key
at_found-adds : (k : List ℕ) (what : Definition) (ns : Nodes) (o : Option Node) → get_node k ns ≡ o → Costs size_nodes (size_nodes ns + size_of what) (at_found k what ns o)
at_found-adds k what ns None found = costs_some (insert k (new_node what) ns) (omega (arith, size-insert-le k (new_node what) ns, new_node-le what))
at_found-adds k what ns (Some x) found =
    costs_map (redefine what x) (λ y. replace k y ns) (redefine-adds what x) (λ y h. omega (arith, size-replace k x y ns found))

at_key-adds : (k : List ℕ) (what : Definition) → Adds (size_of what) (at_key k what)
unfolding at_key
at_key-adds k what ns = at_found-adds k what ns (get_node k ns) refl

-- a pair in a table
put-adds : (k : Key) (d : Data) → Adds (size d) (put k d)
put-adds k d = along_dots-adds k.0 (size d) (at_key k.1 (key_value d)) (at_key-adds k.1 (key_value d))

-- one more expression of a document
define_as-adds : (doc : Document) (k : Key) (what : Definition) → Costs of_document (size_nodes doc.0 + size_of what) (define_as doc k what)
define_as-adds doc k (key_value d) =
    costs_map (along_header doc.1 (put k d) doc.0) (λ root. (root, doc.1)) (along_header-adds doc.1 (size d) (put k d) (put-adds k d) doc.0) (λ root h. h)
define_as-adds doc k std_table =
    costs_map (along_header k.0 (at_key k.1 std_table) doc.0) (λ root. (root, k.0 ++ k.1 ∷ [])) (along_header-adds k.0 0 (at_key k.1 std_table) (at_key-adds k.1 std_table) doc.0) (λ root h. h)
define_as-adds doc k array_table =
    costs_map (along_header k.0 (at_key k.1 array_table) doc.0) (λ root. (root, k.0 ++ k.1 ∷ [])) (along_header-adds k.0 1 (at_key k.1 array_table) (at_key-adds k.1 array_table) doc.0) (λ root h. h)

define-adds : (doc : Document) (e : Expression) → Costs of_document (size_nodes doc.0 + size_of e.1) (define doc e)
unfolding define
define-adds doc e = define_as-adds doc e.0 e.1

-- what is left of a text
drop_within : (n : ℕ) (text : List ℕ) → length (drop n text) ≤ length text
drop_within n text = omega (arith, length-drop n text)

-- a byte that is not 0 stands at the front
some_front : (text : List ℕ) (b : ℕ) → (first text == b) ≡ true → 0 < b → 1 + length (drop 1 text) ≤ length text
some_front [] b e h = absurd (grind (arith, nat_tests))
some_front (c ∷ cs) b e h = omega arith

-- a byte that is read pays for one
after_byte-pays : (b : ℕ) (text : List ℕ) → 0 < b → Costs (λ rest. 1 + length rest) (length text) (after_byte b text)
after_byte-pays b text h = costs_if (first text == b) _ _ (λ e. costs_some (drop 1 text) (some_front text b e h)) (λ e. costs_none)

-- 1 where the closing bracket is next, which pays for an element
closing : List ℕ → ℕ
closing text = cond (first (skip_blank text) == 93) 1 0

-- whether it is there
closing-true : (text : List ℕ) → (first (skip_blank text) == 93) ≡ true → closing text ≡ 1
unfolding closing
closing-true text e = rw e

closing-false : (text : List ℕ) → (first (skip_blank text) == 93) ≡ false → closing text ≡ 0
unfolding closing
closing-false text e = rw e

closing-le : (text : List ℕ) → closing text ≤ 1
closing-le text =
    elim (cases_Bool (first (skip_blank text) == 93)) [
      | inl e ↦ omega (arith, closing-true text e)
      | inr e ↦ omega (arith, closing-false text e)
    ]

-- at the closing bracket nothing more is skipped
closing-at : (text : List ℕ) → (first text == 93) ≡ true → closing text ≡ 1
closing-at text e =
    let same : skip_blank text ≡ text = skip_none text 93 (grind (arith, nat_tests)) refl in
    closing-true text (rw same e)

-- a comma pays for an element, or the closing bracket is next
after_element-pays : (text : List ℕ) → Costs (λ next. 1 + length next - closing next) (length text) (after_element right_bracket text)
unfolding after_element
after_element-pays text =
    let rest = skip_blank text in
    costs_if (first rest == 44) _ _
    (λ e. costs_some (drop 1 rest) (omega (arith, some_front rest 44 e (omega arith), skip_within text)))
    (λ e. costs_if (first rest == 93) _ _ (λ h. costs_some rest (omega (arith, closing-at rest h, skip_within text))) (λ h. costs_none))

-- after an element, what is left
after_element-within : (b : ℕ) (text : List ℕ) → Costs length (length text) (after_element b text)
unfolding after_element
after_element-within b text =
    let rest = skip_blank text in
    costs_if (first rest == 44) _ _
    (λ e. costs_some (drop 1 rest) (omega (arith, drop_within 1 rest, skip_within text)))
    (λ e. costs_if (first rest == b) _ _ (λ h. costs_some rest (skip_within text)) (λ h. costs_none))

-- what is left after blanks
skip_from-within : (comments inside : Bool) (text : List ℕ) → length (skip_from comments inside text) ≤ length text
unfolding skip_from
skip_from-within comments inside [] = omega arith
skip_from-within comments inside (c ∷ cs) =
    let next = skip_from-within comments (unwrap_or (skip_turn comments inside c (first cs)) false) cs in
    elim (cases_Bool (is_some (skip_turn comments inside c (first cs)))) [
      | inl more ↦ rw more (omega arith)
      | inr stop ↦ rw stop (omega arith)
    ]

skip_ws-within : (text : List ℕ) → length (skip_ws text) ≤ length text
unfolding skip_ws
skip_ws-within text = drop_within (prefix_len is_ws text) text

-- what is left after an escape
hex_escape-within : (n : ℕ) (text : List ℕ) → Costs left_of (length text) (hex_escape n text)
unfolding hex_escape
hex_escape-within n text =
    let digits = take n text in
    costs_if ((nat_le n (length text) && list_all (λ c. is_digit c 16) digits) && is_scalar (digits_value 16 digits)) _ _
    (λ e. costs_some (digits_value 16 digits, drop n text) (drop_within n text)) (λ e. costs_none)

escape_char-within : (text : List ℕ) → Costs left_of (length text) (escape_char text)
unfolding escape_char
escape_char-within text =
    costs_if (nat_lt 0 (hex_len (first text))) _ _
    (λ e. costs_more (hex_escape-within (hex_len (first text)) (drop 1 text)) (drop_within 1 text))
    (λ e. costs_map (simple_escape (first text)) (λ c. (c, drop 1 text)) (costs_nothing _) (λ c h. drop_within 1 text))

escape-within : (multi : Bool) (text : List ℕ) → Costs left_of (length text) (escape multi text)
unfolding escape
escape-within multi text =
    costs_if (multi && starts_newline (skip_ws text)) _ _
    (λ e. costs_some ([], skip_lines text) (skip_from-within false false text))
    (λ e. costs_map (escape_char text) _ (escape_char-within text) (λ p h. h))

-- what is left after a byte of a string that does not stand for itself
at_delims-within : (delim : ℕ) (text : List ℕ) → Costs left_of (length text) (at_delims delim text)
at_delims-within delim text =
    let count = prefix_len (λ c. c == delim) text in
    costs_if (count == 3) _ _
    (λ e. costs_some (None, drop 3 text) (drop_within 3 text))
    (λ e. costs_if (nat_lt count 6) _ _ (λ h. costs_some (Some (delim ∷ []), drop 1 text) (drop_within 1 text)) (λ h. costs_none))

special-within : (delim : ℕ) (multi : Bool) (text : List ℕ) → Costs left_of (length text) (special delim multi text)
unfolding special
special-within delim multi text =
    costs_if (first text == delim) _ _
    (λ e. costs_if multi _ _ (λ h. at_delims-within delim text) (λ h. costs_some (None, drop 1 text) (drop_within 1 text)))
    (λ e. costs_if (first text == 92) _ _
    (λ h. costs_map (escape multi (drop 1 text)) _ (escape-within multi (drop 1 text)) (λ p fits. le_trans fits (drop_within 1 text)))
    (λ h. costs_if (multi && starts_newline text) _ _ (λ g. costs_some (Some (first text ∷ []), drop 1 text) (drop_within 1 text)) (λ g. costs_none)))

-- what is left after the rest of a string
prepend-within : (front : List ℕ) (n : ℕ) (r : Read (List ℕ)) → Costs left_of n r → Costs left_of n (prepend front r)
prepend-within front n r h = costs_map r _ h (λ p fits. fits)

after_piece-within : (more : List ℕ → Read (List ℕ)) (piece : Option (List ℕ)) (rest : List ℕ) → Costs left_of (length rest) (more rest) → Costs left_of (length rest) (after_piece more piece rest)
after_piece-within more None rest h = costs_some ([], rest) (le_refl (length rest))
after_piece-within more (Some bytes) rest h = prepend-within bytes (length rest) (more rest) h

body-within : (delim : ℕ) (multi : Bool) (n : ℕ) (text : List ℕ) → Costs left_of (length text) (body delim multi n text)
unfolding body
body-within delim multi zero text = costs_none
body-within delim multi (suc n) text =
    costs_if (is_plain delim multi (first text)) _ _
    (λ e. prepend-within (first text ∷ []) (length text) (body delim multi n (drop 1 text)) (costs_more (body-within delim multi n (drop 1 text)) (drop_within 1 text)))
    (λ e. costs_then (special delim multi text) (λ p. after_piece (body delim multi n) p.0 p.1) (special-within delim multi text)
    (λ p h. costs_more (after_piece-within (body delim multi n) p.0 p.1 (body-within delim multi n p.1)) h))

-- what is left after a string
one_line-within : (text : List ℕ) → Costs left_of (length text) (one_line text)
unfolding one_line
one_line-within text = costs_more (body-within (first text) false (length text) (drop 1 text)) (drop_within 1 text)

-- a bound in either branch
within_if : (b : Bool) (x y : List ℕ) (n : ℕ) → length x ≤ n → length y ≤ n → length (cond b x y) ≤ n
within_if true x y n p q = p
within_if false x y n p q = q

-- without the first newline
trim_newline-within : (text : List ℕ) → length (trim_newline text) ≤ length text
trim_newline-within text =
    within_if (first text == 10) (drop 1 text) (cond (starts_newline text) (drop 2 text) text) (length text) (drop_within 1 text)
    (within_if (starts_newline text) (drop 2 text) text (length text) (drop_within 2 text) (le_refl (length text)))

quoted-within : (text : List ℕ) → Costs left_of (length text) (quoted text)
unfolding quoted
quoted-within text =
    costs_if (slice_index text 1 == first text && slice_index text 2 == first text) _ _
    (λ e. costs_more (body-within (first text) true (length text) (trim_newline (drop 3 text))) (le_trans (trim_newline-within (drop 3 text)) (drop_within 3 text)))
    (λ e. one_line-within text)

-- what is left after a key
simple_key-within : (text : List ℕ) → Costs left_of (length text) (simple_key text)
unfolding simple_key
simple_key-within text =
    costs_if (starts_string text) _ _
    (λ e. one_line-within text)
    (λ e. costs_if (is_bare (first text)) _ _ (λ h. costs_some (split_while is_bare text) (drop_within (prefix_len is_bare text) text)) (λ h. costs_none))

key_after-within : (n : ℕ) (path : List (List ℕ)) (text : List ℕ) → Costs left_of (length text) (key_after n path text)
unfolding key_after
key_after-within zero path text = costs_none
key_after-within (suc n) path text =
    costs_then (simple_key text) _ (simple_key-within text)
    (λ part h.
    let rest = skip_ws part.1 in
    let shorter = skip_ws-within part.1 in
    costs_if (first rest == 46) _ _
    (λ e. costs_more (key_after-within n (path ++ part.0 ∷ []) (skip_ws (drop 1 rest))) (omega (arith, skip_ws-within (drop 1 rest), drop_within 1 rest)))
    (λ e. costs_some ((path, part.0), rest) (omega arith)))

key-within : (text : List ℕ) → Costs left_of (length text) (key text)
key-within text = key_after-within recursion_limit [] text

-- what is left after a key and its sign, and after the key of a header
key_equals-within : (text : List ℕ) → Costs left_of (length text) (key_equals text)
unfolding key_equals
key_equals-within text =
    costs_then (key text) _ (key-within text)
    (λ k h. costs_map (after_byte equals k.1) _ (after_byte-pays equals k.1 (omega arith)) (λ rest g. omega (arith, skip_ws-within rest)))

header_key-within : (text : List ℕ) → Costs left_of (length text) (header_key text)
unfolding header_key
header_key-within text =
    costs_then (key (skip_ws text)) _ (key-within (skip_ws text))
    (λ k h. costs_map (after_byte right_bracket k.1) _ (after_byte-pays right_bracket k.1 (omega arith)) (λ rest g. omega (arith, skip_ws-within text)))

-- a scalar has no items
size-scalar : (s : Scalar) → size (scalar_data s) ≡ 0
size-scalar (Boolean b) = refl
size-scalar (Integer z) = refl
size-scalar (Float x) = refl
size-scalar (Datetime dt) = refl

-- what is left after a scalar
unquoted-within : (text : List ℕ) → Costs left_of (length text) (unquoted text)
unfolding unquoted
unquoted-within text =
    costs_if (word_len text == 0) _ _
    (λ e. costs_none)
    (λ e. costs_map (word_value (take (word_len text) text)) (λ d. (d, drop (word_len text) text)) (costs_nothing _) (λ d h. drop_within (word_len text) text))

-- the size of a value and what is left after it are no longer than the text
atom-within : (text : List ℕ) → Costs of_data (length text) (atom text)
unfolding atom
atom-within text =
    costs_if (starts_string text) _ _
    (λ e. costs_map (quoted text) _ (quoted-within text) (λ p h. omega arith))
    (λ e. costs_map (unquoted text) _ (unquoted-within text) (λ p h. omega (arith, size-scalar p.0)))

module _ (val : List ℕ → Read Data) (val-within : (text : List ℕ) → Costs of_data (length text) (val text)) where
  -- the same of a pair
  keyval-within : (text : List ℕ) → Costs of_pair (length text) (keyval val text)
  keyval-within text =
      costs_then (key_equals text) _ (key_equals-within text)
      (λ k h. costs_map (val k.1) _ (val-within k.1) (λ d g. omega arith))

  -- the same of the rest of an array, whose elements are paid by their commas and the closing bracket
  items-within : (n : ℕ) (found : Items) (text : List ℕ) → Costs of_items (size_items found + length text - closing text) (items val n found text)
  unfolding items
  items-within zero found text = costs_none
  items-within (suc n) found text =
      let start = skip_blank text in
      costs_if (first start == 93) _ _
      (λ e. costs_some (found, drop 1 start) (omega (arith, some_front start 93 e (omega arith), skip_within text, closing-true text e)))
      (λ e. costs_then (val start) _ (val-within start)
      (λ v h. costs_then (after_element right_bracket v.1) (items val n (push_item found v.0)) (after_element-pays v.1)
      (λ next g. costs_more (items-within n (push_item found v.0) next)
      (omega (arith, size-push found v.0, skip_within text, closing-false text e, closing-le next)))))

  -- the same of the rest of an inline table
  members-within : (n : ℕ) (found : Nodes) (text : List ℕ) → Costs of_members (size_nodes found + length text) (members val n found text)
  unfolding members
  members-within zero found text = costs_none
  members-within (suc n) found text =
      let start = skip_blank text in
      costs_if (first start == 125) _ _
      (λ e. costs_some (close found, drop 1 start) (omega (arith, size-close found, drop_within 1 start, skip_within text)))
      (λ e. costs_then (keyval val start) _ (keyval-within start)
      (λ p h. costs_then (put p.0.0 p.0.1 found) _ (put-adds p.0.0 p.0.1 found)
      (λ more g. costs_then (after_element right_brace p.1) (members val n more) (after_element-within right_brace p.1)
      (λ next shorter. costs_more (members-within n more next) (omega (arith, skip_within text))))))

-- the same of any value
val-within : (depth : ℕ) (text : List ℕ) → Costs of_data (length text) (val depth text)
unfolding val
val-within zero text = atom-within text
val-within (suc depth) text =
    let rest = drop 1 text in
    costs_if (first text == 91) _ _
    (λ e. costs_map (items (val depth) (length text) no_items rest) _ (items-within (val depth) (val-within depth) (length text) no_items rest)
    (λ p h. omega (arith, drop_within 1 text)))
    (λ e. costs_if (first text == 123) _ _
    (λ h. costs_map (members (val depth) (length text) no_nodes rest) _ (members-within (val depth) (val-within depth) (length text) no_nodes rest)
    (λ p g. omega (arith, drop_within 1 text)))
    (λ h. atom-within text))

-- the same of an expression: a header in double brackets pays for its element
expression-within : (text : List ℕ) → Costs of_expression (length text) (expression text)
unfolding expression
expression-within text =
    costs_if (first text == 91 && slice_index text 1 == 91) _ _
    (λ e. costs_then (header_key (drop 2 text)) _ (header_key-within (drop 2 text))
    (λ k h. costs_map (after_byte right_bracket k.1) _ (after_byte-pays right_bracket k.1 (omega arith)) (λ rest g. omega (arith, drop_within 2 text))))
    (λ e. costs_if (first text == 91) _ _
    (λ h. costs_map (header_key (drop 1 text)) _ (header_key-within (drop 1 text)) (λ k g. omega (arith, drop_within 1 text)))
    (λ h. costs_map (keyval (val recursion_limit) text) _ (keyval-within (val recursion_limit) (val-within recursion_limit) text) (λ p g. g)))

-- the same of an expression on its line
line-within : (text : List ℕ) → Costs of_expression (length text) (line text)
unfolding line
line-within text =
    costs_then (expression text) _ (expression-within text)
    (λ e h. costs_if (ends_line (skip_ws e.1)) _ _ (λ g. costs_some e h) (λ g. costs_none))

-- a document and the lines that follow it
lines-within : (n : ℕ) (doc : Document) (text : List ℕ) → Costs of_document (size_nodes doc.0 + length text) (lines n doc text)
unfolding lines
lines-within zero doc text = costs_none
lines-within (suc n) doc text =
    let start = skip_blank text in
    costs_if (length start == 0) _ _
    (λ e. costs_some doc (omega arith))
    (λ e. costs_then (line start) _ (line-within start)
    (λ p h. costs_then (define doc p.0) _ (define-adds doc p.0)
    (λ next g. costs_more (lines-within n next p.1) (omega (arith, skip_within text)))))

-- without a byte order mark
skip_bom-within : (text : List ℕ) → length (skip_bom text) ≤ length text
unfolding skip_bom
skip_bom-within text =
    within_if ((first text == 0xEF && slice_index text 1 == 0xBB) && slice_index text 2 == 0xBF) (drop 3 text) text (length text) (drop_within 3 text) (le_refl (length text))

-- a document's size
pub document-within : (text : List ℕ) → Costs size_members (length text) (parse_document text)
unfolding parse_document
document-within text =
    costs_map (lines (suc (length text)) (no_nodes, []) (skip_bom text)) _ (lines-within (suc (length text)) (no_nodes, []) (skip_bom text))
    (λ doc h. omega (arith, size-close doc.0, skip_bom-within text))

-- the value at a key is no larger than its table
get_member-within : (k : List ℕ) (ms : Members) → Costs size (size_members ms) (get_member k ms)
get_member-within k no_members = costs_none
get_member-within k (member l d ms) =
    let more = get_member-within k ms in
    costs_ordering (slice_cmp nat_cmp k l) (get_member k ms) (Some d) (get_member k ms)
    (costs_more more (omega arith)) (costs_some d (omega arith)) (costs_more more (omega arith))

-- an array has no more elements than its size
list_of_items-le : (ds : Items) → length (list_of_items ds) ≤ size_items ds
list_of_items-le no_items = omega arith
list_of_items-le (item d ds) = omega (arith, list_of_items-le ds)

-- nor has a value that may be an array
elements_at-le : (n : ℕ) (o : Option Data) → Costs size n o → length (elements_at o) ≤ n
elements_at-le n (Some (array ds)) h = le_trans (list_of_items-le ds) (h.within (array ds) refl)
elements_at-le n _ h = omega arith

-- a document's array of particles has no more elements than its text has bytes
pub elements-le-length : (bytes : List ℕ) (top : Members) → IsDocument bytes top → length (elements top) ≤ length bytes
elements-le-length bytes top document =
    le_trans (elements_at-le (size_members top) (value_at Particle top) (get_member-within (name_of Particle) top)) ((document-within bytes).within top document.parsed)
