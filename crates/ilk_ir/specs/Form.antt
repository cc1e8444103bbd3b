use Rattle.std.specs.Prelude.{List, map}
use Rattle.ilk_ir.specs.Tree.{Tree, yes, no, is, all_of, any_of, negation, Trees, trees_from_list}
use Rattle.ilk_ir.specs.declared.form.Form.{Form, fold-Form}
use Rattle.ilk_ir.specs.declared.form.Form.TheOpen.{Form-F}

-- Returns the tree of a form whose inner forms are trees already.
abbrev pub tree_from_form_layer : Form-F Tree → Tree
tree_from_form_layer Form-F.Yes = yes
tree_from_form_layer Form-F.No = no
tree_from_form_layer (Form-F.Is v c) = is v c
tree_from_form_layer (Form-F.And fs) = all_of (trees_from_list fs.items)
tree_from_form_layer (Form-F.Or fs) = any_of (trees_from_list fs.items)
tree_from_form_layer (Form-F.Not f) = negation f.value

abbrev pub tree_of : Form → Tree
tree_of = fold-Form Tree tree_from_form_layer

abbrev pub trees_of : List Form → Trees
trees_of fs = trees_from_list (map tree_of fs)
