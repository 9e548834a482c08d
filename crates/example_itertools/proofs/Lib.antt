mod WhereRead
